-- `missed_changes::Reader::change_type` meets its contract: the tallies of the two pairs are added.
-- Assumes nothing.
use native.Mathlib.Omega.{arith}
use Rattle.missed_changes.specs.Changes.{of_type}
use Rattle.missed_changes.proofs.Counts.{type_most, fit, together}
use Rattle.missed_changes.proofs.Reader.change_type.Goals as goal

pub add-requires : goal.add-requires
unfolding of_type
add-requires g c =
    let a = c.args in
    fit c.change_pair-first.ensures c.change_pair-second.ensures (λ test. omega (arith, type_most test a.self.now.rule a.frame_type))

pub returns : goal.returns
unfolding of_type
returns g c = together c.change_pair-first.ensures c.change_pair-second.ensures c.add.ensures
