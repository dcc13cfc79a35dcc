-- The header of a BVLC message: its octets, reading (questions 11 to 13) and writing (question 16).
-- Assumes nothing.
use Rattle.std.specs.Prelude.{ℕ, List, [], ◌∷◌, leb, eqb, length, get_or, Result}
use Rattle.octets.specs.Number.{number, high_first}
use Rattle.octets.specs.Question.{Question, ask, first_no}
use Rattle.octets.specs.Output.{write_answer, write_output}
use Rattle.octets.specs.Refusal.{result_of}
use Rattle.octets.specs.declared.refusal.Refusal.{Refusal}
use Rattle.bip_header.specs.declared.function.BvlcFunction.{BvlcFunction}
use Rattle.bip_header.specs.declared.BvlcHeader.{BvlcHeader}
use Rattle.bip_header.specs.Function.{function_number, function_of}

-- the octets of a header: 81, the function, the length
abbrev pub header_octets : BvlcFunction → ℕ → List ℕ
header_octets function n = 0x81 ∷ function_number function ∷ high_first n

-- the header of a function and a length, as `BvlcHeader::new` fills it in
abbrev pub new_header : BvlcFunction → ℕ → BvlcHeader
new_header function n = record {
  bvlc_type = 0x81;
  function = function;
  length = n;
}

-- the questions of reading in document 01's order
unfoldable pub header_questions : List ℕ → List Question
header_questions s =
    ask 11 (leb 4 (length s))
    ∷ ask 12 (eqb (get_or s 0 0) 0x81)
    ∷ ask 13 (leb (get_or s 1 0) 0x0C)
    ∷ []

-- the first question that some octets fail, or 0
unfoldable pub header_question : List ℕ → ℕ
header_question s = first_no (header_questions s)

-- the function that stands in a message's header
unfoldable pub message_function : List ℕ → BvlcFunction
message_function s = function_of (get_or s 1 0)

-- the length that stands there
unfoldable pub message_length : List ℕ → ℕ
message_length s = number (get_or s 2 0) (get_or s 3 0)

-- what reading answers
unfoldable pub decode : List ℕ → Result BvlcHeader Refusal
decode s = result_of (header_question s) (new_header (message_function s) (message_length s))

-- the question of writing, or 0
unfoldable pub encode_question : List ℕ → ℕ
encode_question out = first_no (ask 16 (leb 4 (length out)) ∷ [])

-- what writing answers: four octets, or the question
unfoldable pub encode_answer : BvlcFunction → ℕ → List ℕ → Result ℕ Refusal
encode_answer function n out = write_answer (encode_question out) (header_octets function n)

-- the lent output afterwards: the header at its front, or as it was
unfoldable pub encode_output : BvlcFunction → ℕ → List ℕ → List ℕ
encode_output function n out = write_output (encode_question out) (header_octets function n) out
