-- `print::octets` is safe and ends: each turn passes an octet.
-- Assumes nothing.
use Rattle.std.proofs.Common.{length, ◌-◌}
use Rattle.replay_cases.proofs.print.octets.Given as goal

abbrev pub decreases-loop-i : goal.decreases-loop-i
decreases-loop-i g l = length l.octets - l.i
