-- `pieces::piece` meets its contract: each turn stores an octet, and the count stays within the room.
-- Assumes nothing.
use Rattle.std.proofs.Common.{length, ◌-◌, ◌≤◌}
use Rattle.replay_runs.proofs.pieces.piece.Given as goal

abbrev pub invariant-loop-i : goal.invariant-loop-i
invariant-loop-i g l = record { begun : l.n ≤ l.i; room : l.i ≤ length l.out }

abbrev pub decreases-loop-i : goal.decreases-loop-i
decreases-loop-i g l = length l.initial.out - l.i
