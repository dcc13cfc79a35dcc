-- A validator's result as a list of numbers: its layout in lent memory.
-- Assumes nothing.
use Rattle.std.specs.Prelude.{ℕ, cond, List, ◌∷◌, ◌++◌, length}
use Rattle.std.specs.List.{flat_map}
use Rattle.findings.specs.declared.ValidationResult.{ValidationResult}
use Rattle.findings.specs.Entries.{filled, entry_numbers}
use Rattle.findings.specs.Error.{error_numbers}
use Rattle.findings.specs.Warning.{warning_numbers}
use Rattle.findings.specs.Link.{link_number}

-- a validator's result: validity, link, size, both counts, then the entries of errors and of warnings, three numbers each
unfoldable pub result_numbers : ValidationResult → List ℕ
result_numbers r =
    cond r.is_valid 1 0
    ∷ link_number r.link_type
    ∷ r.frame_size
    ∷ length r.errors
    ∷ length r.warnings
    ∷ flat_map (entry_numbers error_numbers) (filled 7 r.errors) ++ flat_map (entry_numbers warning_numbers) (filled 2 r.warnings)
