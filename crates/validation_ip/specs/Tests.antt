-- The findings of the BACnet/IP validator: its tests in document 01's order, each with the entry that it gives.
-- Assumes nothing.
use Rattle.std.specs.Prelude.{ℕ, Bool, ◌||◌, not, List, [], ◌∷◌, ltb, eqb, length, get_or, Some}
use Rattle.bip_header.specs.Header.{message_length}
use Rattle.findings.specs.declared.error.ValidationError.{ValidationError}
use Rattle.findings.specs.declared.error.ValidationError.TheVariants.{FrameTooLong, InvalidPreamble, InvalidFrameType, PayloadSizeMismatch}
use Rattle.findings.specs.declared.warning.SecurityReason.TheVariants.{SecureBvll, TableModification}
use Rattle.findings.specs.declared.warning.ValidationWarning.{ValidationWarning}
use Rattle.findings.specs.declared.warning.ValidationWarning.TheVariants.{SecurityWarning}
use Rattle.findings.specs.declared.LinkType.TheVariants.{BacnetIp}
use Rattle.findings.specs.declared.ValidationResult.{ValidationResult}
use Rattle.findings.specs.Result.{Test, finds, errors_of, warnings_of, validation_result}

-- the type
abbrev pub bvlc_type : List ℕ → ℕ
bvlc_type s = get_or s 0 0

-- the function
abbrev pub function : List ℕ → ℕ
function s = get_or s 1 0

-- the tests of errors behind that of the least size: 81, function 00 to 0D, length, above 1497
unfoldable pub error_tests : List ℕ → List (Test ValidationError)
error_tests s =
    finds (not (eqb (bvlc_type s) 0x81)) (InvalidPreamble 0x81 (bvlc_type s))
    ∷ finds (ltb 0x0D (function s)) (InvalidFrameType (function s))
    ∷ finds (not (eqb (message_length s) (length s))) (PayloadSizeMismatch (message_length s) (length s))
    ∷ finds (ltb 1497 (length s)) (FrameTooLong (length s) 1497)
    ∷ []

-- functions 01 and 08 change a table
abbrev pub changes_table : ℕ → Bool
changes_table n = eqb n 0x01 || eqb n 0x08

-- the tests of warnings: 0C; 01 or 08
unfoldable pub warning_tests : List ℕ → List (Test ValidationWarning)
warning_tests s =
    finds (eqb (function s) 0x0C) (SecurityWarning SecureBvll)
    ∷ finds (changes_table (function s)) (SecurityWarning TableModification)
    ∷ []

-- the errors of a message
unfoldable pub ip_errors : List ℕ → List ValidationError
ip_errors s = errors_of 4 (length s) (error_tests s)

-- its warnings
unfoldable pub ip_warnings : List ℕ → List ValidationWarning
ip_warnings s = warnings_of 4 (length s) (warning_tests s)

-- what the validator answers
unfoldable pub ip_result : List ℕ → ValidationResult
ip_result s = validation_result (Some BacnetIp) (length s) (ip_errors s) (ip_warnings s)
