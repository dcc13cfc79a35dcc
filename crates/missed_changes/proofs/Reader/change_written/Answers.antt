-- `missed_changes::Reader::change_written` meets its contract: the frame is written, and the octets there are its.
-- Assumes nothing.
use mathlib.Core.Path.{refl, subst}
use mathlib.Core.List.{List}
use Prim.Native.Nat.{ℕ}
use native.Mathlib.Omega.{arith}
use lib.ListN.{length-take}
use Rattle.missed_changes.specs.Changes.{of_frame, Tallies}
use Rattle.missed_changes.proofs.Written.{There, not_refused, there}
use Rattle.missed_changes.proofs.Reader.change_written.Goals.{In-Ok}
use Rattle.missed_changes.proofs.Reader.change_written.Goals as goal

-- the frame is there
written : (g : _) (c : goal.In-Ok g)
    → let a = c.args in
    There a.self.now.rule a.frame_type a.destination a.source a.body.now c.in-Ok.n c.encode.new.out
written g c = there _ _ _ _ _ _ c.requires refl c.encode.ensures.value c.in-Ok.is c.encode.ensures.output

pub slice_bounds-frame-end : goal.slice_bounds-frame-end
slice_bounds-frame-end g c = omega (arith, (written g c).most, c.encode.auto)

pub slice_bounds-change_frame-end : goal.slice_bounds-change_frame-end
slice_bounds-change_frame-end g c =
    omega (arith, length-take c.in-Ok.n c.encode.new.out, (written g (goal.at.slice_bounds-change_frame-end g c).In-Ok).most, c.encode.auto)

pub change_frame-requires : goal.change_frame-requires
change_frame-requires g c =
    let w = written g (goal.at.change_frame-requires g c).In-Ok in
    let size = length-take c.in-Ok.n c.encode.new.out in
    (omega (arith, size, w.least, w.most, c.encode.auto), omega (arith, size, w.least, w.most, c.encode.auto))

pub returns-in-Ok : goal.returns-in-Ok
returns-in-Ok g c =
    subst (λ (s : List ℕ). Tallies c.args.self.now.rule (λ test. of_frame test s) c.change_frame.result)
    (written g (goal.at.returns-in-Ok g c).In-Ok).octets c.change_frame.ensures

pub returns-in-Err : goal.returns-in-Err
returns-in-Err g c = absurd (not_refused _ _ _ _ _ _ c.requires refl c.encode.ensures.value c.in-Err.is)
