-- The findings of the MS/TP validator: its tests in document 01's order, each with the entry that it gives.
-- Assumes nothing.
use Rattle.std.specs.Prelude.{ℕ, Bool, ◌&&◌, not, List, [], ◌∷◌, leb, ltb, eqb, length, Some}
use Rattle.octets.specs.Range.{within}
use Rattle.crc.specs.Rule.{data_check}
use Rattle.crc.specs.declared.CheckRule.{CheckRule}
use Rattle.mstp_frame.specs.Address.{is_master, is_slave, usual_to_slave}
use Rattle.mstp_frame.specs.Fields.{preamble, frame_type, destination_of, source_of, data_length}
use Rattle.mstp_frame.specs.Fields.{header_check_sent, header_check_of, data_part, data_check_sent}
use Rattle.mstp_frame.specs.Size.{frame_size}
use Rattle.findings.specs.declared.error.AddressReason.TheVariants.{SourceIsBroadcast}
use Rattle.findings.specs.declared.error.HeaderReason.TheVariants.{DataLength}
use Rattle.findings.specs.declared.error.ValidationError.{ValidationError}
use Rattle.findings.specs.declared.error.ValidationError.TheVariants.{InvalidPreamble, CrcMismatch, InvalidFrameType}
use Rattle.findings.specs.declared.error.ValidationError.TheVariants.{InvalidAddress, InvalidHeader, PayloadSizeMismatch}
use Rattle.findings.specs.declared.warning.ConfigurationReason.TheVariants.{ProprietaryType, MasterToSlave}
use Rattle.findings.specs.declared.warning.ValidationWarning.{ValidationWarning}
use Rattle.findings.specs.declared.warning.ValidationWarning.TheVariants.{NonStandardConfiguration}
use Rattle.findings.specs.declared.LinkType.TheVariants.{MsTP}
use Rattle.findings.specs.declared.ValidationResult.{ValidationResult}
use Rattle.findings.specs.Result.{Test, finds, errors_of, warnings_of, validation_result}

-- there are data, and enough octets for them and their check
unfoldable pub data_check_there : List ℕ → Bool
data_check_there s = ltb 0 (data_length s) && leb (frame_size (data_length s)) (length s)

-- the data check, if it is there, is not the one calculated
unfoldable pub data_check_test : CheckRule → List ℕ → Test ValidationError
data_check_test rule s =
    finds (data_check_there s && not (eqb (data_check_sent s) (data_check rule (data_part s))))
    (CrcMismatch (data_check_sent s) (data_check rule (data_part s)))

-- the tests of errors behind that of the least size: preamble, type 8 to 127, source 255, length above 501, header check, size, data check
unfoldable pub error_tests : CheckRule → List ℕ → List (Test ValidationError)
error_tests rule s =
    finds (not (eqb (preamble s) 0x55FF)) (InvalidPreamble 0x55FF (preamble s))
    ∷ finds (within 8 127 (frame_type s)) (InvalidFrameType (frame_type s))
    ∷ finds (eqb (source_of s) 255) (InvalidAddress (source_of s) SourceIsBroadcast)
    ∷ finds (ltb 501 (data_length s)) (InvalidHeader (DataLength (data_length s)))
    ∷ finds (not (eqb (header_check_sent s) (header_check_of rule s))) (CrcMismatch (header_check_sent s) (header_check_of rule s))
    ∷ finds (not (eqb (frame_size (data_length s)) (length s))) (PayloadSizeMismatch (frame_size (data_length s)) (length s))
    ∷ data_check_test rule s
    ∷ []

-- a master sends to a slave with a type that is not usual there under the rule
unfoldable pub master_to_slave : CheckRule → ℕ → ℕ → ℕ → Bool
master_to_slave rule type destination source = is_master source && (is_slave destination && not (usual_to_slave rule type))

-- the tests of warnings: a type of 128 or more, a master that sends to a slave
unfoldable pub warning_tests : CheckRule → List ℕ → List (Test ValidationWarning)
warning_tests rule s =
    finds (leb 128 (frame_type s)) (NonStandardConfiguration (ProprietaryType (frame_type s)))
    ∷ finds (master_to_slave rule (frame_type s) (destination_of s) (source_of s)) (NonStandardConfiguration MasterToSlave)
    ∷ []

-- the errors of a frame
unfoldable pub mstp_errors : CheckRule → List ℕ → List ValidationError
mstp_errors rule s = errors_of 8 (length s) (error_tests rule s)

-- it has none
abbrev pub errorless : CheckRule → List ℕ → Bool
errorless rule s = eqb (length (mstp_errors rule s)) 0

-- its warnings
unfoldable pub mstp_warnings : CheckRule → List ℕ → List ValidationWarning
mstp_warnings rule s = warnings_of 8 (length s) (warning_tests rule s)

-- what the validator answers
unfoldable pub mstp_result : CheckRule → List ℕ → ValidationResult
mstp_result rule s = validation_result (Some MsTP) (length s) (mstp_errors rule s) (mstp_warnings rule s)
