-- Document 01's trials, (a) to (k), as one table over the definitions that the contracts cite.
-- Assumes nothing.
use Rattle.std.specs.Prelude.{ℕ, true, Result, Ok, List, [], ◌∷◌, ◌++◌, drop, replicate}
use Rattle.octets.specs.Refusal.{refused}
use Rattle.octets.specs.declared.refusal.Refusal.{Refusal}
use Rattle.crc.specs.declared.CheckRule.{CheckRule}
use Rattle.crc.specs.declared.CheckRule.TheVariants.{AnnexG, House}
use Rattle.crc.specs.Rule.{header_check}
use Rattle.mstp_frame.specs.declared.MstpFrameType.TheVariants.{BacnetDataNotExpectingReply}
use Rattle.mstp_encode.specs.Encode.{encode_answer, encode_output}
use Rattle.bip_header.specs.declared.function.BvlcFunction.TheVariants.{OriginalBroadcastNpdu}
use Rattle.bip_header.specs.Header.{new_header, decode}
use Rattle.bip_message.specs.Message.{process}
use Rattle.validation_ip.specs.Tests.{ip_result}
use Rattle.patterns.specs.Detect.{patterns_answer, patterns_output}
use Rattle.trials.specs.Trial.{Trial, ◌gives◌, EachHolds}

-- n zeros, lent to be written on
abbrev pub zeros : ℕ → List ℕ
zeros n = replicate n 0

-- the header of (a) and (b)
abbrev pub header : List ℕ
header = 0x00 ∷ 0x10 ∷ 0x05 ∷ 0x00 ∷ 0x00 ∷ []

-- the data of (c) and (d)
abbrev pub three_octets : List ℕ
three_octets = 0x01 ∷ 0x22 ∷ 0x30 ∷ []

-- n data octets for (k)
abbrev pub octets41 : ℕ → List ℕ
octets41 n = replicate n 0x41

-- what the frame writer answers for some data and an output; type, destination and source stay the same
abbrev pub writing : CheckRule → List ℕ → List ℕ → Result ℕ Refusal
writing rule body out = encode_answer rule BacnetDataNotExpectingReply 0x10 0x05 body out

-- the output afterwards
abbrev pub written : CheckRule → List ℕ → List ℕ → List ℕ
written rule body out = encode_output rule BacnetDataNotExpectingReply 0x10 0x05 body out

-- the frame with three data octets and what is sent behind them
abbrev pub sent : CheckRule → List ℕ
sent rule = written rule three_octets (zeros 13)

-- what the patterns of some octets are answered with, and a list for two entries afterwards
abbrev pub patterns_of : List ℕ → Result ℕ Refusal × List ℕ
patterns_of s = (patterns_answer s (zeros 8), patterns_output s (zeros 8))

-- the entry of a padding: start, length, octet value
abbrev pub padding : ℕ → ℕ → ℕ → List ℕ
padding i n v = 1 ∷ i ∷ n ∷ v ∷ []

-- of a text: start, length
abbrev pub text : ℕ → ℕ → List ℕ
text i n = 2 ∷ i ∷ n ∷ 0 ∷ []

-- of "zeros"
abbrev pub all_zeros : List ℕ
all_zeros = 3 ∷ 0 ∷ 0 ∷ 0 ∷ []

-- the message of (i) and (j), but for its function
abbrev pub message : ℕ → List ℕ
message function = 0x81 ∷ function ∷ 0x00 ∷ 0x04 ∷ []

-- the trials in document 01's order
abbrev pub table : List Trial
table =
    -- (a) header 00 10 05 00 00: Annex G 8C
    header_check AnnexG header gives 0x8C
    -- (b) the same, house rule 9A
    ∷ header_check House header gives 0x9A
    -- (c) data 01 22 30: Annex G sends 10 BD
    ∷ drop 11 (sent AnnexG) gives (0x10 ∷ 0xBD ∷ [])
    -- (d) house sends C7 4B
    ∷ drop 11 (sent House) gives (0xC7 ∷ 0x4B ∷ [])
    -- (e) four octets 41: no padding, one text
    ∷ patterns_of (octets41 4) gives (Ok 1, text 0 4 ++ zeros 4)
    -- (f) five octets 41: padding at 1, length 4, and text 0, 5
    ∷ patterns_of (octets41 5) gives (Ok 2, padding 1 4 0x41 ++ text 0 5)
    -- (g) twelve zeros: padding at 1, length 11, no "zeros"
    ∷ patterns_of (zeros 12) gives (Ok 1, padding 1 11 0x00 ++ zeros 4)
    -- (h) eight zeros, four FF: padding at 8 and "zeros"
    ∷ patterns_of (zeros 8 ++ replicate 4 0xFF) gives (Ok 2, padding 8 4 0xFF ++ all_zeros)
    -- (i) 81 0D 00 04: validator content,
    ∷ (ip_result (message 0x0D)).is_valid gives true
    -- reading 13
    ∷ decode (message 0x0D) gives refused 13
    -- (j) 81 0B 00 04: header read,
    ∷ decode (message 0x0B) gives Ok (new_header OriginalBroadcastNpdu 4)
    -- NPDU 15
    ∷ process (message 0x0B) gives refused 15
    -- (k) 501 data octets written: 511 octets,
    ∷ writing AnnexG (octets41 501) (zeros 511) gives Ok 511
    -- which are the frame;
    ∷ written AnnexG (octets41 501) (zeros 511) gives (0x55 ∷ 0xFF ∷ 0x06 ∷ 0x10 ∷ 0x05 ∷ 0x01 ∷ 0xF5 ∷ 0x65 ∷ octets41 501 ++ 0x1D ∷ 0x0F ∷ [])
    -- 502 gives 7
    ∷ writing AnnexG (octets41 502) (zeros 512) gives refused 7
    ∷ []

-- each of them holds
unfoldable pub Trials : Type 0
Trials = EachHolds table
