-- The result of a validator: link, size, validity, and the findings in the order of its tests.
-- Assumes nothing.
use Rattle.std.specs.Prelude.{ℕ, Bool, false, cond, ◌&&◌, List, [], ◌∷◌, eqb, ltb, length, Option, None}
use Rattle.std.specs.Bool.{then_some}
use Rattle.findings.specs.declared.error.ValidationError.{ValidationError}
use Rattle.findings.specs.declared.error.ValidationError.TheVariants.{FrameTooShort}
use Rattle.findings.specs.declared.warning.ValidationWarning.{ValidationWarning}
use Rattle.findings.specs.declared.LinkType.{LinkType}
use Rattle.findings.specs.declared.ValidationResult.{ValidationResult}

-- a test: whether it fires, and the finding that it then gives
pub data Test (F : Type 0) : Type 0 where
  finds : Bool → F → Test F

module _ {F : Type 0} where
  -- what a test gives: its finding where it fires
  abbrev pub given : Test F → Option F
  given (finds fires finding) = then_some fires finding

  -- the findings of the tests that fire, in their order
  unfoldable pub found : List (Test F) → List F
  found [] = []
  found (finds fires finding ∷ tests) = cond fires (finding ∷ found tests) (found tests)

-- the errors of a frame: too short, alone, or those of the tests
unfoldable pub errors_of : ℕ → ℕ → List (Test ValidationError) → List ValidationError
errors_of minimum size tests = cond (ltb size minimum) (FrameTooShort size minimum ∷ []) (found tests)

-- its warnings: none where it is too short
unfoldable pub warnings_of : ℕ → ℕ → List (Test ValidationWarning) → List ValidationWarning
warnings_of minimum size tests = cond (ltb size minimum) [] (found tests)

-- a result: link, size, errors and warnings; valid means no errors
abbrev pub validation_result : Option LinkType → ℕ → List ValidationError → List ValidationWarning → ValidationResult
validation_result link size errors warnings = record {
  is_valid = eqb (length errors) 0;
  link_type = link;
  frame_size = size;
  errors = errors;
  warnings = warnings;
}

-- neither an error nor a warning
unfoldable pub faultless : ValidationResult → Bool
faultless r = eqb (length r.errors) 0 && eqb (length r.warnings) 0

-- zeros: what stands where nothing was validated
abbrev pub no_result : ValidationResult
no_result = record {
  is_valid = false;
  link_type = None;
  frame_size = 0;
  errors = [];
  warnings = [];
}
