-- Which validator a frame goes to, and what is answered where none is determined.
-- Assumes nothing.
use Rattle.std.specs.Prelude.{ℕ, true, cond, List, [], ◌∷◌, eqb, length, Option, Some, None}
use Rattle.crc.specs.declared.CheckRule.{CheckRule}
use Rattle.mstp_frame.specs.Fields.{begins_preamble}
use Rattle.ethernet_decode.specs.Frame.{bacnet_type}
use Rattle.ethernet_decode.specs.Decode.{field_of}
use Rattle.findings.specs.declared.error.HeaderReason.TheVariants.{Undetermined}
use Rattle.findings.specs.declared.error.ValidationError.{ValidationError}
use Rattle.findings.specs.declared.error.ValidationError.TheVariants.{InvalidHeader}
use Rattle.findings.specs.declared.LinkType.{LinkType}
use Rattle.findings.specs.declared.LinkType.TheVariants.{BacnetIp, Ethernet, MsTP}
use Rattle.findings.specs.declared.ValidationResult.{ValidationResult}
use Rattle.findings.specs.Result.{finds, errors_of, validation_result}
use Rattle.validation_mstp.specs.Tests.{mstp_result}
use Rattle.validation_ip.specs.Tests.{bvlc_type, ip_result}
use Rattle.validation_ethernet.specs.Tests.{ethernet_result}

-- the link that a frame is taken for: 55 FF, else 81, else 82 DC at octet 12, else none
unfoldable pub link_of : List ℕ → Option LinkType
link_of s = cond (begins_preamble s) (Some MsTP) (cond (eqb (bvlc_type s) 0x81) (Some BacnetIp) (cond (eqb (field_of s) bacnet_type) (Some Ethernet) None))

-- the errors where it is none: empty input is too short, all else is undetermined
unfoldable pub no_link_errors : ℕ → List ValidationError
no_link_errors size = errors_of 1 size (finds true (InvalidHeader Undetermined) ∷ [])

-- what the validator of a link answers
abbrev pub result_of : Option LinkType → CheckRule → List ℕ → ValidationResult
result_of None rule s = validation_result None (length s) (no_link_errors (length s)) []
result_of (Some BacnetIp) rule s = ip_result s
result_of (Some Ethernet) rule s = ethernet_result s
result_of (Some MsTP) rule s = mstp_result rule s

-- what is answered to a frame
unfoldable pub frame_result : CheckRule → List ℕ → ValidationResult
frame_result rule s = result_of (link_of s) rule s
