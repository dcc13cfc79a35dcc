-- `missed_changes::Reader::change_all` meets its contract: the tally is that of the types so far.
-- Assumes nothing.
use native.Mathlib.Omega.{arith}
use Rattle.mstp_frame.specs.FrameType.{type_of}
use Rattle.missed_changes.specs.Changes.{of_all}
use Rattle.missed_changes.proofs.Counts.{going_start, going_fits, going_next, going_end, type_most, of_type_lem}
use Rattle.missed_changes.proofs.Reader.change_all.Goals as goal

pub loop-number-init : goal.loop-number-init
loop-number-init g c = going_start _ _ _ c.counted-tally.ensures

pub add-tally-requires : goal.add-tally-requires
add-tally-requires g c =
    let loop = c.loop-number in
    going_fits _ _ _ loop.number (omega arith) loop.invariant (of_type_lem c.type_of.ensures c.change_type.ensures)
    5120 (λ test number. type_most test _ (type_of number)) (omega arith)

pub loop-number-preserved : goal.loop-number-preserved
loop-number-preserved g c =
    let loop = c.loop-number in
    going_next _ _ _ loop.number (omega arith) loop.invariant (of_type_lem c.type_of.ensures c.change_type.ensures)
    c.add-tally.ensures

pub returns : goal.returns
unfolding of_all
returns g c = going_end _ _ _ (omega arith) c.loop-number.invariant
