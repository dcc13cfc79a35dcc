-- A result without findings: its lists are empty, and no test fires.
-- Assumes nothing.
use mathlib.Core.Path.{◌≡◌, refl}
use mathlib.Core.Bool.{Bool, true, false, cond, ◌&&◌}
use mathlib.Core.List.{List, [], ◌∷◌}
use Prim.Native.Nat.{ℕ}
use native.Mathlib.Omega.{arith}
use borrow.Author.Tests.{eqb-true, leb-true, leb-false, le-ltb, lt-ltb}
use lib.Dec.{eqb, leb, ltb}
use lib.ListN.{length}
use Rattle.std.specs.Prelude.{Option}
use Rattle.octets.proofs.Tests.{both_true}
use Rattle.findings.specs.declared.error.ValidationError.{ValidationError}
use Rattle.findings.specs.declared.error.ValidationError.TheVariants.{FrameTooShort}
use Rattle.findings.specs.declared.warning.ValidationWarning.{ValidationWarning}
use Rattle.findings.specs.declared.LinkType.{LinkType}
use Rattle.findings.specs.Result.{Test, found, errors_of, warnings_of, validation_result, faultless}
use Rattle.findings.proofs.Quiet.{quiet, quiet_is}

-- findings that count 0 are none
none : {F : Type 0} (findings : List F) → eqb (length findings) 0 ≡ true → findings ≡ []
none [] e = refl
none (finding ∷ findings) e = absurd (omega (arith, eqb-true (length (finding ∷ findings)) 0 e))

-- the result without findings is what a faultless one is
pub clean : (link : Option LinkType) (size : ℕ) (errors : List ValidationError) (warnings : List ValidationWarning)
    → faultless (validation_result link size errors warnings) ≡ true
    → validation_result link size [] [] ≡ validation_result link size errors warnings
unfolding faultless
clean link size errors warnings e =
    let b = both_true (eqb (length errors) 0) (eqb (length warnings) 0) e in
    rw (none errors b.0, none warnings b.1)

-- a result is faultless where there are octets enough and no test fires
pub faultless_is : (link : Option LinkType) (size minimum : ℕ) (error_tests : List (Test ValidationError)) (warning_tests : List (Test ValidationWarning))
    → leb minimum size && (quiet error_tests && quiet warning_tests)
    ≡ faultless (validation_result link size (errors_of minimum size error_tests) (warnings_of minimum size warning_tests))
unfolding faultless errors_of warnings_of
faultless_is link size minimum error_tests warning_tests = by (leb minimum size) refl
  where
    by : (b : Bool) → leb minimum size ≡ b
        → b && (quiet error_tests && quiet warning_tests)
        ≡ eqb (length (cond (ltb size minimum) (FrameTooShort size minimum ∷ []) (found error_tests))) 0
        && eqb (length (cond (ltb size minimum) [] (found warning_tests))) 0
    by true e = rw (le-ltb size minimum (leb-true minimum size e), quiet_is error_tests, quiet_is warning_tests)
    by false e = rw (lt-ltb size minimum (leb-false minimum size e))
