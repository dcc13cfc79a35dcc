-- `runs::longest_run` meets its contract: of the octets passed, the longest run and the run that they end with are known.
-- Assumes nothing.
use Rattle.std.proofs.Common.{◌≡◌, take}
use Rattle.runs.specs.Longest.{last_run, longest_within}
use Rattle.runs.proofs.longest_run.Given as goal

abbrev pub invariant-loop-i : goal.invariant-loop-i
invariant-loop-i l = (l.longest ≡ longest_within l.i l.s) × (l.last ≡ last_run (take l.i l.s))
