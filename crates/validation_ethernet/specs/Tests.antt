-- The findings of validation.rs's Ethernet validator: its tests in document 01's order, each with the entry that it gives.
-- Assumes nothing.
use Rattle.std.specs.Prelude.{ℕ, ◌%◌, Bool, ◌&&◌, not, List, [], ◌∷◌, ltb, eqb, length, get_or, Some}
use Rattle.octets.specs.Number.{number}
use Rattle.runs.specs.Front.{is, front}
use Rattle.ethernet_decode.specs.Frame.{bacnet_type}
use Rattle.ethernet_decode.specs.Decode.{destination_of, field_of}
use Rattle.findings.specs.declared.error.HeaderReason.TheVariants.{EthernetType, LlcHeader}
use Rattle.findings.specs.declared.error.ValidationError.{ValidationError}
use Rattle.findings.specs.declared.error.ValidationError.TheVariants.{FrameTooLong, InvalidHeader}
use Rattle.findings.specs.declared.warning.ConfigurationReason.TheVariants.{Multicast}
use Rattle.findings.specs.declared.warning.ValidationWarning.{ValidationWarning}
use Rattle.findings.specs.declared.warning.ValidationWarning.TheVariants.{UnusualFrameSize, NonStandardConfiguration}
use Rattle.findings.specs.declared.LinkType.TheVariants.{Ethernet}
use Rattle.findings.specs.declared.ValidationResult.{ValidationResult}
use Rattle.findings.specs.Result.{Test, finds, errors_of, warnings_of, validation_result}

-- the LLC header, three octets as one number
unfoldable pub llc : List ℕ → ℕ
llc s = number (number (get_or s 14 0) (get_or s 15 0)) (get_or s 16 0)

-- the tests of errors behind that of the least size: above 1514, 82 DC, 82 82 03
unfoldable pub error_tests : List ℕ → List (Test ValidationError)
error_tests s =
    finds (ltb 1514 (length s)) (FrameTooLong (length s) 1514)
    ∷ finds (not (eqb (field_of s) bacnet_type)) (InvalidHeader (EthernetType (field_of s)))
    ∷ finds (not (eqb (llc s) 0x828203)) (InvalidHeader (LlcHeader (llc s)))
    ∷ []

-- an address is the broadcast address, six octets FF
unfoldable pub broadcast : List ℕ → Bool
broadcast address = eqb (front (is 0xFF) address) 6

-- the low bit of an address's first octet is set, but it is not broadcast
unfoldable pub multicast : List ℕ → Bool
multicast address = eqb (get_or address 0 0 % 2) 1 && not (broadcast address)

-- the tests of warnings: a multicast address; exactly 60 octets
unfoldable pub warning_tests : List ℕ → List (Test ValidationWarning)
warning_tests s =
    finds (multicast (destination_of s)) (NonStandardConfiguration Multicast)
    ∷ finds (eqb (length s) 60) (UnusualFrameSize (length s))
    ∷ []

-- the errors of a frame
unfoldable pub ethernet_errors : List ℕ → List ValidationError
ethernet_errors s = errors_of 17 (length s) (error_tests s)

-- its warnings
unfoldable pub ethernet_warnings : List ℕ → List ValidationWarning
ethernet_warnings s = warnings_of 17 (length s) (warning_tests s)

-- what the validator answers
unfoldable pub ethernet_result : List ℕ → ValidationResult
ethernet_result s = validation_result (Some Ethernet) (length s) (ethernet_errors s) (ethernet_warnings s)
