-- The octets of an Ethernet frame without padding, in either form.
-- Assumes nothing.
use Rattle.std.specs.Prelude.{ℕ, ◌+◌, List, [], ◌∷◌, ◌++◌, length}
use Rattle.octets.specs.Number.{high_first}
use Rattle.ethernet_decode.specs.declared.EthernetForm.{EthernetForm}
use Rattle.ethernet_decode.specs.declared.EthernetForm.TheVariants.{EtherType, Length}

-- the two octets after the addresses in form EtherType, as a number
abbrev pub bacnet_type : ℕ
bacnet_type = 0x82DC

-- BACnet's LLC header
abbrev pub llc_header : List ℕ
llc_header = 0x82 ∷ 0x82 ∷ 0x03 ∷ []

-- the number in the two octets after the addresses, before n octets of payload: 82 DC, or the count of LLC and payload octets
abbrev pub field : EthernetForm → ℕ → ℕ
field EtherType n = bacnet_type
field Length n = length llc_header + n

-- what stands before the payload: destination, source, the two octets after them, the LLC header
abbrev pub header_octets : ℕ → List ℕ → List ℕ → List ℕ
header_octets n destination source = destination ++ (source ++ (high_first n ++ llc_header))

-- a frame without padding
unfoldable pub unpadded : EthernetForm → List ℕ → List ℕ → List ℕ → List ℕ
unpadded form destination source body = header_octets (field form (length body)) destination source ++ body
