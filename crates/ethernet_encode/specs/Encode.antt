-- Writing an Ethernet frame: questions 24 and 25, the answer and the lent output.
-- Assumes nothing.
use Rattle.std.specs.Prelude.{ℕ, List, [], ◌∷◌, leb, length, Result}
use Rattle.octets.specs.Question.{Question, ask, first_no}
use Rattle.octets.specs.Output.{write_answer, write_output}
use Rattle.octets.specs.declared.refusal.Refusal.{Refusal}
use Rattle.ethernet_decode.specs.declared.EthernetForm.{EthernetForm}
use Rattle.ethernet_encode.specs.Frame.{ethernet_frame}

-- the questions in document 01's order: of the frame's octets and the lent output
unfoldable pub encode_questions : List ℕ → List ℕ → List Question
encode_questions frame out = ask 24 (leb (length frame) 1514) ∷ ask 25 (leb (length frame) (length out)) ∷ []

module _ (form : EthernetForm) (destination source body out : List ℕ) where
  -- the frame's octets
  abbrev frame : List ℕ
  frame = ethernet_frame form destination source body

  -- the first question that fails, or 0
  unfoldable pub encode_question : ℕ
  encode_question = first_no (encode_questions frame out)

  -- what writing answers: the frame's octet count, or the question
  unfoldable pub encode_answer : Result ℕ Refusal
  encode_answer = write_answer encode_question frame

  -- the lent output afterwards: the frame at its front, or as it was
  unfoldable pub encode_output : List ℕ
  encode_output = write_output encode_question frame out
