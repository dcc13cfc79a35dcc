-- Whether a validator's tests fire.
-- Assumes nothing.
use mathlib.Core.Path.{◌≡◌, refl}
use mathlib.Core.Bool.{Bool, true, false, cond, not, ◌&&◌}
use mathlib.Core.List.{List, [], ◌∷◌}
use Prim.Native.Nat.{ℕ}
use native.Mathlib.Omega.{arith}
use borrow.Author.Tests.{ne_eqb, leb-true, leb-false, le-ltb, lt-ltb}
use lib.Dec.{eqb, leb, ltb}
use lib.ListN.{length}
use Rattle.findings.specs.declared.error.ValidationError.{ValidationError}
use Rattle.findings.specs.declared.error.ValidationError.TheVariants.{FrameTooShort}
use Rattle.findings.specs.Result.{Test, finds, found, errors_of}

-- none of some tests fires
abbrev pub quiet : {F : Type 0} → List (Test F) → Bool
quiet [] = true
quiet (finds fires finding ∷ tests) = not fires && quiet tests

pub quiet_is : {F : Type 0} (tests : List (Test F)) → eqb (length (found tests)) 0 ≡ quiet tests
unfolding found
quiet_is [] = refl
quiet_is (finds true finding ∷ tests) = ne_eqb (length (finding ∷ found tests)) 0 (λ e. omega arith)
quiet_is (finds false finding ∷ tests) = quiet_is tests

-- a frame has no error where there are octets enough and no test fires
pub valid_is : (size minimum : ℕ) (tests : List (Test ValidationError))
    → eqb (length (errors_of minimum size tests)) 0 ≡ leb minimum size && quiet tests
unfolding errors_of
valid_is size minimum tests = by (leb minimum size) refl
  where
    by : (b : Bool) → leb minimum size ≡ b
        → eqb (length (cond (ltb size minimum) (FrameTooShort size minimum ∷ []) (found tests))) 0 ≡ b && quiet tests
    by true e = rw (le-ltb size minimum (leb-true minimum size e)) (quiet_is tests)
    by false e = rw (lt-ltb size minimum (leb-false minimum size e))
