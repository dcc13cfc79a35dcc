-- `missed_changes::Reader::change_place` meets its contract: the tally is that of the octets so far.
-- Assumes nothing.
use native.Mathlib.Omega.{arith}
use Rattle.missed_changes.specs.Changes.{of_place}
use Rattle.missed_changes.proofs.Counts.{going_start, going_fits, going_next, going_end, octet_most}
use Rattle.missed_changes.proofs.Reader.change_place.Goals as goal

pub loop-octet-init : goal.loop-octet-init
loop-octet-init g c = going_start _ _ _ c.counted-tally.ensures

pub add-tally-requires : goal.add-tally-requires
add-tally-requires g c =
    let loop = c.loop-octet in
    going_fits _ _ _ loop.octet (omega arith) loop.invariant c.change.ensures 1 (λ test. octet_most test _ _) (omega arith)

pub loop-octet-preserved : goal.loop-octet-preserved
loop-octet-preserved g c =
    let loop = c.loop-octet in
    going_next _ _ _ loop.octet (omega arith) loop.invariant c.change.ensures c.add-tally.ensures

pub returns : goal.returns
unfolding of_place
returns g c = going_end _ _ _ (omega arith) c.loop-octet.invariant

pub returns-2 : goal.returns-2
unfolding of_place
returns-2 g c =
    let loop = c.loop-octet in
    going_end _ _ _ (omega arith) (going_next _ _ _ loop.octet (omega arith) loop.invariant c.change.ensures c.add-tally.ensures)
