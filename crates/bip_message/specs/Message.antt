-- What a BVLC message carries: questions 11 to 15, the answer and the NPDU.
-- Assumes nothing.
use Rattle.std.specs.Prelude.{ℕ, ◌+◌, ◌≡◌, Bool, true, cond, List, [], ◌∷◌, ◌++◌, eqb, ltb, length, get_or, drop, Result, Ok, Err}
use Rattle.octets.specs.Number.{number}
use Rattle.octets.specs.Range.{within}
use Rattle.octets.specs.Question.{Question, ask, first_no}
use Rattle.octets.specs.Refusal.{result_of}
use Rattle.octets.specs.declared.refusal.Refusal.{Refusal}
use Rattle.bip_header.specs.declared.function.BvlcFunction.{BvlcFunction}
use Rattle.bip_header.specs.declared.function.BvlcFunction.TheVariants.{OriginalUnicastNpdu}
use Rattle.bip_header.specs.Function.{function_number}
use Rattle.bip_header.specs.Header.{header_octets, header_questions, message_function, message_length}
use Rattle.bip_message.specs.declared.BvlcMessage.{BvlcMessage}
use Rattle.bip_message.specs.declared.BvlcMessage.TheVariants.{Npdu, TimeToLive, NoNpdu}

-- a registration of exactly 6 octets carries a time to live
unfoldable pub registration : List ℕ → BvlcMessage
registration s = cond (eqb (length s) 6) (TimeToLive (number (get_or s 4 0) (get_or s 5 0))) NoNpdu

-- what a message carries by its function's number: 0A and 0B an NPDU from octet 4 on, 04 from octet 10 on, 05 a registration; all
-- else, 09 too, no NPDU
abbrev pub message_of : ℕ → List ℕ → BvlcMessage
message_of number s =
    cond (within 0x0A 0x0B number) (Npdu 4)
    (cond (eqb number 0x04) (Npdu 10)
    (cond (eqb number 0x05) (registration s)
    NoNpdu))

-- there is at least one NPDU octet, if there is to be an NPDU
abbrev pub npdu_there : BvlcMessage → ℕ → Bool
npdu_there (Npdu start) size = ltb start size
npdu_there (TimeToLive n) size = true
npdu_there NoNpdu size = true

-- what question 15 answers of what is carried
abbrev pub npdu_asked : BvlcMessage → List ℕ → Result BvlcMessage Refusal
npdu_asked carried s =
    result_of (first_no (ask 15 (npdu_there carried (length s)) ∷ [])) carried

-- the questions behind the header's, of the length that it says, the octets given and what they carry
unfoldable pub questions_behind : ℕ → ℕ → BvlcMessage → List Question
questions_behind n size carried = ask 14 (eqb n size) ∷ ask 15 (npdu_there carried size) ∷ []

-- what a message carries by the function in its header
abbrev pub carried_by : List ℕ → BvlcMessage
carried_by s = message_of (function_number (message_function s)) s

-- the questions in document 01's order
unfoldable pub message_questions : List ℕ → List Question
message_questions s =
    header_questions s ++ questions_behind (message_length s) (length s) (carried_by s)

-- the first question that a message fails, or 0
unfoldable pub message_question : List ℕ → ℕ
message_question s = first_no (message_questions s)

-- the answer: what the message carries, or the question
unfoldable pub process : List ℕ → Result BvlcMessage Refusal
process s = result_of (message_question s) (carried_by s)

-- the octets of an NPDU; none for every other answer
abbrev pub npdu_of : Result BvlcMessage Refusal → List ℕ → List ℕ
npdu_of (Ok (Npdu start)) s = drop start s
npdu_of (Ok (TimeToLive n)) s = []
npdu_of (Ok NoNpdu) s = []
npdu_of (Err refusal) s = []

-- the NPDU of a message
unfoldable pub npdu : List ℕ → List ℕ
npdu s = npdu_of (process s) s

-- a message is a header that says its length, an address of as many octets as its function has, and a body
pub record LaidOut (s : List ℕ) (function : BvlcFunction) (address body : List ℕ) : Type 0 where
  pub carried : message_of (function_number function) s ≡ Npdu (4 + length address)
  pub octets : s ≡ header_octets function (length s) ++ (address ++ body)

-- the least of them: four octets, with neither an address nor a body
abbrev pub LeastLaidOut : Type 0
LeastLaidOut = LaidOut (header_octets OriginalUnicastNpdu 4) OriginalUnicastNpdu [] []

-- where it is one, the part is the body
abbrev pub Whole : List ℕ → List ℕ → Type 0
Whole s part = (function : BvlcFunction) (address body : List ℕ) → LaidOut s function address body → part ≡ body

-- where an NPDU is answered, the message is one, of the function read, some address, and the part
abbrev pub Carries : List ℕ → Result BvlcMessage Refusal → List ℕ → Type 0
Carries s (Ok (Npdu start)) part = (address : List ℕ) × LaidOut s (message_function s) address part
Carries s (Ok (TimeToLive n)) part = Unit {0}
Carries s (Ok NoNpdu) part = Unit {0}
Carries s (Err refusal) part = Unit {0}
