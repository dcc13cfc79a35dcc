-- `missed_changes::Reader::change_frame` meets its contract: the tally is that of the places so far.
-- Assumes nothing.
use Prim.Native.Nat.{◌+◌}
use native.Mathlib.Omega.{arith}
use Rattle.missed_changes.specs.Changes.{of_frame}
use Rattle.missed_changes.proofs.Counts.{going_start, going_fits, going_next, going_end, place_most}
use Rattle.missed_changes.proofs.Reader.change_frame.Goals as goal

pub loop-i-init : goal.loop-i-init
loop-i-init g c = going_start _ _ _ c.counted-tally.ensures

pub add-tally-requires : goal.add-tally-requires
add-tally-requires g c =
    let loop = c.loop-i in
    going_fits _ _ _ loop.i (omega arith) loop.invariant c.change_place.ensures 256 (λ test i. place_most test _ (i + 2)) (omega arith)

pub loop-i-preserved : goal.loop-i-preserved
loop-i-preserved g c =
    let loop = c.loop-i in
    going_next _ _ _ loop.i (omega arith) loop.invariant c.change_place.ensures c.add-tally.ensures

pub returns : goal.returns
unfolding of_frame
returns g c = going_end _ _ _ (omega arith) c.loop-i.invariant
