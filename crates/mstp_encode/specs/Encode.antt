-- Writing an MS/TP frame: questions 7 and 8, the answer and the lent output.
-- Assumes nothing.
use Rattle.std.specs.Prelude.{ℕ, Result, List, [], ◌∷◌, leb, length}
use Rattle.octets.specs.Question.{Question, ask, first_no}
use Rattle.octets.specs.Output.{write_answer, write_output}
use Rattle.octets.specs.declared.refusal.Refusal.{Refusal}
use Rattle.crc.specs.declared.CheckRule.{CheckRule}
use Rattle.mstp_frame.specs.declared.MstpFrameType.{MstpFrameType}
use Rattle.mstp_decode.specs.Frame.{encode_frame}

-- question 7: at most 501 data octets?
abbrev pub data_question : List ℕ → Question
data_question body = ask 7 (leb (length body) 501)

-- question 8: room for the frame's octets in the output?
abbrev pub room_question : List ℕ → List ℕ → Question
room_question frame out = ask 8 (leb (length frame) (length out))

-- the questions in document 01's order: of the data, the frame's octets and the lent output
unfoldable pub encode_questions : List ℕ → List ℕ → List ℕ → List Question
encode_questions body frame out = data_question body ∷ room_question frame out ∷ []

module _ (rule : CheckRule) (frame_type : MstpFrameType) (destination source : ℕ) (body out : List ℕ) where
  -- the frame's octets
  abbrev frame : List ℕ
  frame = encode_frame rule frame_type destination source body

  -- the first question that fails, or 0
  unfoldable pub encode_question : ℕ
  encode_question = first_no (encode_questions body frame out)

  -- what writing answers: the frame's octet count, or the refusal
  unfoldable pub encode_answer : Result ℕ Refusal
  encode_answer = write_answer encode_question frame

  -- the lent output afterwards: the frame at its front, or as it was
  unfoldable pub encode_output : List ℕ
  encode_output = write_output encode_question frame out
