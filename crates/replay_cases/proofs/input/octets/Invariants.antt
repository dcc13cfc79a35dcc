-- `input::octets` meets its contract: each turn stores one octet more, and behind them all is as it was.
-- Assumes nothing.
use Rattle.std.proofs.Common.{length, drop, ◌-◌, ◌≡◌, ◌≤◌}
use Rattle.replay_cases.proofs.input.octets.Given as goal

abbrev pub invariant-loop-i : goal.invariant-loop-i
invariant-loop-i g l = record {
  room : l.i ≤ length l.out;
  most : l.i ≤ l.n;
  rest : drop l.i l.out ≡ drop l.i l.fn.out;
}

abbrev pub decreases-loop-i : goal.decreases-loop-i
decreases-loop-i g l = length l.initial.out - l.i
