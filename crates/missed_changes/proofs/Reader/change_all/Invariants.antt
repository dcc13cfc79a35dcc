-- `missed_changes::Reader::change_all` meets its contract: the tally is that of the types so far.
-- Assumes nothing.
use Rattle.mstp_frame.specs.FrameType.{type_of}
use Rattle.missed_changes.specs.Changes.{of_type}
use Rattle.missed_changes.proofs.Counts.{Going}
use Rattle.missed_changes.proofs.Reader.change_all.Given as goal

abbrev pub invariant-loop-number : goal.invariant-loop-number
invariant-loop-number g l = Going l.self.rule (λ test number. of_type test l.self.rule (type_of number)) 8 l.number l.tally
