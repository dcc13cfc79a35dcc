-- `missed_changes::Reader::change_place` meets its contract: the tally is that of the octets so far.
-- Assumes nothing.
use Rattle.missed_changes.specs.Changes.{of_octet}
use Rattle.missed_changes.proofs.Counts.{Going}
use Rattle.missed_changes.proofs.Reader.change_place.Given as goal

abbrev pub invariant-loop-octet : goal.invariant-loop-octet
invariant-loop-octet g l = Going l.self.rule (λ test. of_octet test l.frame l.place) 256 l.octet l.tally
