-- Document 01's numbers of errors: a kind, 1 to 8 in the order of validation.rs, and what goes with it.
-- Assumes nothing.
use Rattle.std.specs.Prelude.{ℕ, List, [], ◌∷◌}
use Rattle.findings.specs.declared.error.AddressReason.{AddressReason}
use Rattle.findings.specs.declared.error.AddressReason.TheVariants.{SourceIsBroadcast}
use Rattle.findings.specs.declared.error.HeaderReason.{HeaderReason}
use Rattle.findings.specs.declared.error.HeaderReason.TheVariants.{DataLength, EthernetType, LlcHeader, Undetermined}
use Rattle.findings.specs.declared.error.ValidationError.{ValidationError}
use Rattle.findings.specs.declared.error.ValidationError.TheVariants.{FrameTooShort, FrameTooLong, InvalidPreamble, CrcMismatch}
use Rattle.findings.specs.declared.error.ValidationError.TheVariants.{InvalidFrameType, InvalidAddress, InvalidHeader, PayloadSizeMismatch}

-- the reason of error 6: the source is the broadcast address
abbrev pub address_number : AddressReason → ℕ
address_number SourceIsBroadcast = 1

-- the reasons of error 7, and what was found: a data length above 501, a type other than 82 DC, an LLC header other than
-- 82 82 03; or no link could be determined
abbrev pub header_numbers : HeaderReason → List ℕ
header_numbers (DataLength found) = 1 ∷ found ∷ []
header_numbers (EthernetType found) = 2 ∷ found ∷ []
header_numbers (LlcHeader found) = 3 ∷ found ∷ []
header_numbers Undetermined = 4 ∷ 0 ∷ []

-- the errors: 1 and 2 the size and the limit; 3 the octets expected and those found, as one number each; 4 the check
-- received and the one calculated; 5 the type or function; 6 the address and a reason; 7 a reason and what was found; 8 the
-- size declared and the actual one
abbrev pub error_numbers : ValidationError → List ℕ
error_numbers (FrameTooShort size minimum) = 1 ∷ size ∷ minimum ∷ []
error_numbers (FrameTooLong size maximum) = 2 ∷ size ∷ maximum ∷ []
error_numbers (InvalidPreamble expected found) = 3 ∷ expected ∷ found ∷ []
error_numbers (CrcMismatch received calculated) = 4 ∷ received ∷ calculated ∷ []
error_numbers (InvalidFrameType value) = 5 ∷ value ∷ 0 ∷ []
error_numbers (InvalidAddress address reason) = 6 ∷ address ∷ address_number reason ∷ []
error_numbers (InvalidHeader reason) = 7 ∷ header_numbers reason
error_numbers (PayloadSizeMismatch declared actual) = 8 ∷ declared ∷ actual ∷ []
