-- `lefkanu::lefkanu_mstp_encode` meets its contract: a number that names no type is told so.
-- Assumes nothing.
use mathlib.Core.Path.{refl}
use Rattle.lefkanu.proofs.mstp_frames.lefkanu_mstp_encode.Goals as goal

pub returns-in_default-from_u8-clause-value : goal.returns-in_default-from_u8-clause-value
returns-in_default-from_u8-clause-value c =
    rw (← c.rule_named.ensures, c.in-Some.is, ← c.from_u8.ensures.value, c.in_default-from_u8.is) refl
