-- `missed_changes::Reader::change_frame` meets its contract: the tally is that of the places so far.
-- Assumes nothing.
use Prim.Native.Nat.{◌+◌}
use Rattle.missed_changes.specs.Changes.{of_place}
use Rattle.missed_changes.proofs.Counts.{Going}
use Rattle.missed_changes.proofs.Reader.change_frame.Given as goal

abbrev pub invariant-loop-i : goal.invariant-loop-i
invariant-loop-i g l = Going l.self.rule (λ test i. of_place test l.frame (i + 2)) 5 l.i l.tally
