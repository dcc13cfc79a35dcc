-- `missed_changes::Reader::change` meets its contract: the octet is the same, or a change that is read or not.
-- Assumes nothing.
use mathlib.Core.Path.{refl, ◌∙◌}
use Rattle.missed_changes.proofs.Counts.{read_is, unchanged, changed}
use Rattle.missed_changes.proofs.Reader.change.Goals as goal

pub returns-then-frame-place : goal.returns-then-frame-place
returns-then-frame-place g c = unchanged _ _ _ _ c.if-frame-place.true c.counted.ensures

pub returns-then-is_err : goal.returns-then-is_err
returns-then-is_err g c =
    changed _ _ _ _ c.if-frame-place.false
    (read_is _ c.is_err.ensures.value c.if-is_err.true (c.decode.ensures.value ∙ rw c.copy_from_slice.ensures.after)) c.counted-then-is_err.ensures

pub returns : goal.returns
returns g c =
    changed _ _ _ _ c.if-frame-place.false
    (read_is _ c.is_err.ensures.value c.if-is_err.false (c.decode.ensures.value ∙ rw c.copy_from_slice.ensures.after)) (refl, refl)
