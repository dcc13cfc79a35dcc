-- The octets of an MS/TP frame: clause 9's layout, under either check rule.
-- Assumes nothing.
use Rattle.std.specs.Prelude.{ℕ, List, [], ◌∷◌, ◌++◌, length}
use Rattle.octets.specs.Number.{high_first, low_first}
use Rattle.crc.specs.Rule.{header_check, data_check}
use Rattle.crc.specs.declared.CheckRule.{CheckRule}
use Rattle.mstp_frame.specs.declared.MstpFrameType.{MstpFrameType}
use Rattle.mstp_frame.specs.FrameType.{type_number}

-- the five octets that the header check covers: type, destination, source, data length
abbrev pub header_fields : MstpFrameType → ℕ → ℕ → ℕ → List ℕ
header_fields frame_type destination source n = type_number frame_type ∷ destination ∷ source ∷ high_first n

-- a header: 55 FF, the five octets, their check
abbrev pub header_octets : CheckRule → List ℕ → List ℕ
header_octets rule fields = 0x55 ∷ 0xFF ∷ fields ++ header_check rule fields ∷ []

-- the octets of the data check, low octet first
abbrev pub check_octets : CheckRule → List ℕ → List ℕ
check_octets rule body = low_first (data_check rule body)

-- the data and their check; nothing where there are no data
abbrev pub data_octets : CheckRule → List ℕ → List ℕ
data_octets rule [] = []
data_octets rule (b ∷ body) = (b ∷ body) ++ check_octets rule (b ∷ body)

-- a whole frame
unfoldable pub encode_frame : CheckRule → MstpFrameType → ℕ → ℕ → List ℕ → List ℕ
encode_frame rule frame_type destination source body =
    header_octets rule (header_fields frame_type destination source (length body)) ++ data_octets rule body
