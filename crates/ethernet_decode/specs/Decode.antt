-- Reading an Ethernet frame in either form (21 to 23; or 21, 24, 61, 62, 23) and the file's validator (21, 24, 22, 23).
-- Assumes nothing.
use Rattle.std.specs.Prelude.{ℕ, ◌-◌, Bool, ◌&&◌, List, [], ◌∷◌, ◌++◌, leb, eqb, length, get_or, take, drop, Result, Ok}
use Rattle.octets.specs.Number.{number}
use Rattle.octets.specs.Question.{Question, ask, first_no, answered}
use Rattle.octets.specs.Range.{within}
use Rattle.octets.specs.Refusal.{result_of}
use Rattle.octets.specs.declared.refusal.Refusal.{Refusal}
use Rattle.ethernet_decode.specs.declared.EthernetHeader.{EthernetHeader}
use Rattle.ethernet_decode.specs.declared.EthernetForm.{EthernetForm}
use Rattle.ethernet_decode.specs.declared.EthernetForm.TheVariants.{EtherType, Length}
use Rattle.ethernet_decode.specs.Frame.{bacnet_type}

-- the destination in front
abbrev pub destination_of : List ℕ → List ℕ
destination_of s = take 6 s

-- the source behind it
abbrev pub source_of : List ℕ → List ℕ
source_of s = take 6 (drop 6 s)

-- the two octets after them, as a number
unfoldable pub field_of : List ℕ → ℕ
field_of s = number (get_or s 12 0) (get_or s 13 0)

-- the LLC header is BACnet's
unfoldable pub llc_right : List ℕ → Bool
llc_right s = eqb (get_or s 14 0) 0x82 && (eqb (get_or s 15 0) 0x82 && eqb (get_or s 16 0) 0x03)

-- the questions of a form between 21 and 23: document 01's for 82 DC, document 02's for a length
unfoldable pub form_questions : EthernetForm → List ℕ → List Question
form_questions EtherType s = ask 22 (eqb (field_of s) bacnet_type) ∷ []
form_questions Length s =
    ask 24 (leb (length s) 1514)
    ∷ ask 61 (within 3 1500 (field_of s))
    ∷ ask 62 (leb (field_of s) (length (drop 14 s)))
    ∷ []

-- the questions of the header
unfoldable pub header_questions : EthernetForm → List ℕ → List Question
header_questions form s = form_questions form s ++ (ask 23 (llc_right s) ∷ [])

-- the questions of reading
unfoldable pub decode_questions : EthernetForm → List ℕ → List Question
decode_questions form s = ask 21 (leb 17 (length s)) ∷ header_questions form s

-- the first question of reading that some octets fail, or 0
unfoldable pub decode_question : EthernetForm → List ℕ → ℕ
decode_question form s = first_no (decode_questions form s)

-- how many octets of payload there are: all behind the header, or those that the length counts behind the LLC header
abbrev pub payload_length : EthernetForm → List ℕ → ℕ
payload_length EtherType s = length s - 17
payload_length Length s = field_of s - 3

-- what is read: both addresses and the payload's length
abbrev pub header : List ℕ → List ℕ → ℕ → EthernetHeader
header destination source n = record {
  dest_mac = destination;
  src_mac = source;
  payload_length = n;
}

-- an answer that accepts
abbrev pub accepted : List ℕ → List ℕ → ℕ → Result EthernetHeader Refusal
accepted destination source n = Ok (header destination source n)

-- what reading answers
unfoldable pub decode : EthernetForm → List ℕ → Result EthernetHeader Refusal
decode form s = result_of (decode_question form s) (header (destination_of s) (source_of s) (payload_length form s))

-- the payload; none where reading refuses
unfoldable pub payload : EthernetForm → List ℕ → List ℕ
payload form s = answered (λ _. []) (decode_question form s) (take (payload_length form s) (drop 17 s))

-- the validator's questions in document 01's order: of form EtherType
unfoldable pub validate_questions : List ℕ → List Question
validate_questions s = ask 21 (leb 17 (length s)) ∷ ask 24 (leb (length s) 1514) ∷ header_questions EtherType s

-- what the validator answers
unfoldable pub validate : List ℕ → Result (Unit {0}) Refusal
validate s = result_of (first_no (validate_questions s)) tt
