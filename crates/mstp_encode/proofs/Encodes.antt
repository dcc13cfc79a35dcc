-- The writer's parts and returns: what the stores leave in the lent output.
-- Assumes nothing.
use mathlib.Core.Path.{◌≡◌, refl, sym, ◌∙◌}
use mathlib.Core.List.{List, [], ◌∷◌, ◌++◌}
use Prim.Native.Nat.{ℕ, ◌+◌, ◌/◌, ◌%◌, ◌≤◌, ◌<◌}
use native.Mathlib.Omega.{arith}
use borrow.Author.Tests.{le-leb}
use lib.ListN.{length}
use Rattle.octets.specs.Number.{low_first}
use Rattle.octets.specs.Put.{Put}
use Rattle.std.specs.Prelude.{Result, Ok}
use Rattle.octets.specs.Output.{InFront}
use Rattle.octets.specs.declared.refusal.Refusal.{Refusal}
use Rattle.octets.proofs.Outputs.{writes}
use Rattle.octets.proofs.Parts.{Octets}
use Rattle.octets.proofs.Puts.{put_more, room_more, put_front}
use Rattle.octets.proofs.Questions.{none_fails}
use Rattle.crc.specs.Rule.{header_check, data_check}
use Rattle.crc.specs.declared.CheckRule.{CheckRule}
use Rattle.mstp_frame.specs.declared.MstpFrameType.{MstpFrameType}
use Rattle.mstp_encode.specs.Encode.{encode_questions, encode_question, encode_answer, encode_output}
use Rattle.mstp_frame.specs.Size.{frame_size}
use Rattle.mstp_decode.specs.Frame.{header_fields, header_octets, data_octets, encode_frame}
use Rattle.mstp_frame.specs.FrameType.{type_number}
use Rattle.mstp_decode.specs.Change.{WrittenFrame}
use Rattle.mstp_decode.specs.RoundTrip.{GivesBack, ReadsBack}
use Rattle.mstp_decode.proofs.ReadsBack.{decode_back, data_back}
use Rattle.mstp_decode.proofs.Sizes.{encoded_size}
use Rattle.mstp_encode.proofs.Written.{written}

-- eight octets are a header
pub header_is : (rule : CheckRule) (t : MstpFrameType) (destination source n : ℕ) {number high low check : ℕ}
    → number ≡ type_number t
    → high ≡ n / 256
    → low ≡ n % 256
    → check ≡ header_check rule (number ∷ destination ∷ source ∷ high ∷ low ∷ [])
    → 0x55 ∷ 0xFF ∷ number ∷ destination ∷ source ∷ high ∷ low ∷ check ∷ [] ≡ header_octets rule (header_fields t destination source n)
header_is rule t destination source n en eh el ec = rw (ec, en, eh, el)

-- no data, nothing put
pub no_data : (rule : CheckRule) (body : List ℕ) → length body ≡ 0 → data_octets rule body ≡ []
no_data rule [] none = refl
no_data rule (b ∷ body) none = absurd (omega arith)

-- some data have a check
pub some_data : (rule : CheckRule) (body : List ℕ) {check : ℕ} {sent : List ℕ} → (length body ≡ 0 → ⊥) → check ≡ data_check rule body
    → sent ≡ low_first check → data_octets rule body ≡ body ++ sent
some_data rule [] some e sent = absurd (some refl)
some_data rule (b ∷ body) some e sent = rw (sent, e)

-- what `encode` answers and leaves, with the round trip that it promises
module _ (rule : CheckRule) (t : MstpFrameType) (destination source : ℕ) (body out : List ℕ) where
  abbrev frame : List ℕ
  frame = encode_frame rule t destination source body

  pub record Encoded (answer : Result ℕ Refusal) (left : List ℕ) : Type 0 where
    pub value : answer ≡ encode_answer rule t destination source body out
    pub output : left ≡ encode_output rule t destination source body out
    pub back : ReadsBack rule t destination source body left answer
    pub written : InFront (WrittenFrame rule) answer left

  module _ (few : length body ≤ 501) {size : ℕ} (sized : size ≡ frame_size (length body)) where
    frame_size_is : length frame ≡ size
    frame_size_is = encoded_size rule t destination source body ∙ sym sized

    module _ (room : size ≤ length out) where
      none : encode_question rule t destination source body out ≡ 0
      unfolding encode_question encode_questions
      none = none_fails (encode_questions body frame out)
          (le-leb (length body) 501 few, (le-leb (length frame) (length out) (rw frame_size_is room), tt))

      abbrev header : List ℕ
      header = header_octets rule (header_fields t destination source (length body))

      module _ {l : List ℕ} {at : ℕ} (first : Put header out 0 l at) where
        pub data_fits : at + length (data_octets rule body) ≤ length l
        unfolding encode_frame
        data_fits = room_more first (data_octets rule body) (omega (arith, frame_size_is, room))

        -- header and data are the frame in front, which reads back
        pub all_written : destination < 256 → source < 256 → Octets body → {after : List ℕ} {n : ℕ} → Put (data_octets rule body) l at after n
            → Encoded (Ok n) after
        unfolding encode_frame encode_answer encode_output
        all_written to from octets second =
            let front = put_front (put_more first second) in
            let back : GivesBack rule t destination source body frame
            = (decode_back rule t destination source body, data_back rule t destination source body) in
            let w = writes (λ s. GivesBack rule t destination source body s × WrittenFrame rule s) frame out
            (back, written rule t destination source body to from octets few) none front.0 front.1 in
            record { value = w.0; output = w.1.0; back = w.1.1.0; written = w.1.1.1 }
