-- `missed_changes::Reader::change_pair` meets its contract: the tallies of the two frames are added.
-- Assumes nothing.
use native.Mathlib.Omega.{arith}
use Rattle.missed_changes.specs.Changes.{of_pair}
use Rattle.missed_changes.proofs.Counts.{pair_most, fit, together}
use Rattle.missed_changes.proofs.Reader.change_pair.Goals as goal

pub add-requires : goal.add-requires
unfolding of_pair
add-requires g c =
    let a = c.args in
    fit c.change_written-without.ensures c.change_written-with.ensures
    (λ test. omega (arith, pair_most test a.self.now.rule a.frame_type a.destination a.source))

pub returns : goal.returns
unfolding of_pair
returns g c = together c.change_written-without.ensures c.change_written-with.ensures c.add.ensures
