-- The octets that the header check covers.
-- Assumes nothing.
use mathlib.Core.Path.{◌≡◌, ◌∙◌}
use mathlib.Core.List.{List}
use Prim.Native.Nat.{ℕ, ◌+◌, ◌≤◌, ◌<◌}
use native.Mathlib.Omega.{arith}
use lib.ListN.{length, get_or, drop, length-take, length-drop}
use lib.Seq.{get_or-take, get_or-drop}
use Rattle.crc.proofs.Through.{five}
use Rattle.mstp_frame.specs.Fields.{fields_part, field_octets}

-- each octet by its place, where the header is whole
pub whole_header : (f : List ℕ) → 8 ≤ length f → field_octets f ≡ fields_part f
whole_header f long =
    let at : (i : ℕ) → i < 5 → get_or (fields_part f) i 0 ≡ get_or f (2 + i) 0 = λ i less. get_or-take 5 (drop 2 f) i 0 less ∙ get_or-drop 2 f i 0 in
    rw (← at 0 (omega arith), ← at 1 (omega arith), ← at 2 (omega arith), ← at 3 (omega arith), ← at 4 (omega arith))
    (five (fields_part f) (omega (arith, length-take 5 (drop 2 f), length-drop 2 f)))
