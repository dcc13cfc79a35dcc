-- The octets of an Ethernet frame as it is written: padded.
-- Assumes nothing.
use Rattle.std.specs.Prelude.{ℕ, ◌+◌, ◌-◌, List, ◌++◌, length, replicate}
use Rattle.ethernet_decode.specs.declared.EthernetForm.{EthernetForm}
use Rattle.ethernet_decode.specs.Frame.{unpadded}

-- the zeros that pad n octets to 60
abbrev pub padding : ℕ → List ℕ
padding n = replicate (60 - n) 0

-- a frame of a form: padded with zeros to 60 octets
unfoldable pub ethernet_frame : EthernetForm → List ℕ → List ℕ → List ℕ → List ℕ
ethernet_frame form destination source body =
    unpadded form destination source body ++ padding (length (unpadded form destination source body))

-- a payload with the zeros that pad its frame, whose header has 17 octets
unfoldable pub padded_payload : List ℕ → List ℕ
padded_payload body = body ++ padding (17 + length body)
