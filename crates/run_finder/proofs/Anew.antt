-- An acceptable frame passes every check and, written anew from what reading gives, is itself.
-- Assumes nothing.
use mathlib.Core.Path.{◌≡◌, refl, sym, ap₂}
use mathlib.Core.Bool.{true}
use mathlib.Core.List.{List, [], ◌∷◌}
use Prim.Native.Nat.{ℕ, ◌≤◌}
use borrow.Author.Tests.{eqb-true, le-leb}
use lib.Dec.{eqb, leb}
use lib.ListN.{length}
use Rattle.octets.specs.Output.{write_answer, write_output}
use Rattle.octets.specs.Question.{first_no}
use Rattle.octets.proofs.Parts.{Octets, none_is}
use Rattle.octets.proofs.Tests.{both_true}
use Rattle.crc.specs.declared.CheckRule.{CheckRule}
use Rattle.mstp_decode.specs.Frame.{encode_frame}
use Rattle.mstp_decode.specs.declared.MstpHeader.{MstpHeader}
use Rattle.mstp_frame.specs.Fields.{frame_type, data_length}
use Rattle.mstp_decode.specs.Decode.{header_of, frame_data}
use Rattle.mstp_decode.proofs.Accepted.{accepts}
use Rattle.mstp_decode.proofs.Answers.{frame_back}
use Rattle.mstp_decode.proofs.ReadsBack.{length_back}
use Rattle.mstp_frame.specs.FrameType.{from_u8}
use Rattle.mstp_encode.specs.Encode.{room_question, encode_questions, encode_question, encode_answer, encode_output}
use Rattle.validation_mstp.specs.Tests.{mstp_errors}
use Rattle.run_search.specs.Acceptable.{acceptable}
use Rattle.run_search.proofs.Acceptables.{facts}
use Rattle.run_finder.specs.Demand.{WrittenAnew, Passes}

-- octets that are what writing gives for a header and their data, of which there are at most 501
module _ (rule : CheckRule) (f : List ℕ) (header : MstpHeader)
    (written : f ≡ encode_frame rule header.frame_type header.destination header.source (frame_data rule f)) (few : data_length f ≤ 501) where
  abbrev frame : List ℕ
  frame = encode_frame rule header.frame_type header.destination header.source (frame_data rule f)

  few_data : length (frame_data rule f) ≤ 501
  few_data =
      rw (← (length_back rule header.frame_type header.destination header.source (frame_data rule f)), ← written) few

  -- past question 7 there is 8 alone
  asks_room : (out : List ℕ)
      → encode_question rule header.frame_type header.destination header.source (frame_data rule f) out ≡ first_no (room_question f out ∷ [])
  unfolding encode_question encode_questions first_no
  asks_room out = rw (le-leb (length (frame_data rule f)) 501 few_data, ← written)

  written_anew : WrittenAnew rule f header
  unfolding encode_answer encode_output
  written_anew out = (
    ap₂ (λ (q : ℕ) (l : List ℕ). write_answer q l) (asks_room out) (sym written),
    ap₂ (λ (q : ℕ) (l : List ℕ). write_output q l out) (asks_room out) (sym written),
  )

pub passes : (rule : CheckRule) (f : List ℕ) → Octets f → acceptable rule f ≡ true → Passes rule f
unfolding acceptable from_u8 header_of
passes rule f octets e =
    let a = facts rule f octets e in
    let both = both_true (eqb (length (mstp_errors rule f)) 0) (leb (frame_type f) 7) e in
    let d = frame_back rule f (accepts rule f a.read) octets refl in
    record {
      no_errors = none_is (mstp_errors rule f) (eqb-true (length (mstp_errors rule f)) 0 both.0);
      header = header_of f;
      accepted = sym d.0;
      known = rw both.1;
      anew = written_anew rule f (header_of f) d.1 a.short;
    }
