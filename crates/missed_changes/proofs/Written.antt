-- A frame with at most three data octets, written in memory of 13: it is not refused, and it is there.
-- Assumes nothing.
use mathlib.Core.Path.{◌≡◌, ap₂, ◌∙◌}
use mathlib.Core.List.{List}
use Prim.Native.Nat.{ℕ, ◌≤◌}
use native.Mathlib.Omega.{arith}
use borrow.Author.Tests.{le-leb}
use lib.ListN.{length, take}
use Rattle.octets.specs.Output.{at_front, write_answer, write_output}
use Rattle.std.specs.Prelude.{Result, Ok, Err}
use Rattle.octets.specs.declared.refusal.Refusal.{Refusal}
use Rattle.octets.proofs.Outputs.{take_front}
use Rattle.octets.proofs.Questions.{answered_value, none_fails}
use Rattle.octets.proofs.Refusals.{none_failed, one_failed}
use Rattle.crc.specs.declared.CheckRule.{CheckRule}
use Rattle.mstp_frame.specs.declared.MstpFrameType.{MstpFrameType}
use Rattle.mstp_frame.proofs.Sizes.{size_least, size_most}
use Rattle.mstp_decode.specs.Frame.{encode_frame}
use Rattle.mstp_decode.proofs.Sizes.{encoded_size}
use Rattle.mstp_encode.specs.Encode.{encode_questions, encode_question, encode_answer, encode_output}

module _ (rule : CheckRule) (t : MstpFrameType) (destination source : ℕ) (body : List ℕ) where
  abbrev frame : List ℕ
  frame = encode_frame rule t destination source body

  -- the first n octets of a list are the frame, as long as frames of so few data are
  pub record There (n : ℕ) (l : List ℕ) : Type 0 where
    pub octets : take n l ≡ encode_frame rule t destination source body
    pub least : 8 ≤ n
    pub most : n ≤ 13

  -- memory of 13 octets
  module _ (out : List ℕ) (few : length body ≤ 3) (size : length out ≡ 13) where
    frame_size_lem : (8 ≤ length frame) × (length frame ≤ 13)
    frame_size_lem =
        let same = encoded_size rule t destination source body in
        (omega (arith, same, size_least (length body)), omega (arith, same, size_most (length body)))

    none : encode_question rule t destination source body out ≡ 0
    unfolding encode_question encode_questions
    none = none_fails (encode_questions body frame out)
        (le-leb (length body) 501 (omega arith), (le-leb (length frame) (length out) (omega (arith, frame_size_lem)), tt))

    module _ {answer : Result ℕ Refusal} (is : answer ≡ encode_answer rule t destination source body out) where
      pub not_refused : {refusal : Refusal} → answer ≡ Err refusal → ⊥
      unfolding encode_answer write_answer
      not_refused err = (one_failed (length frame) _ is err).0 none

      -- it is in front, as many octets as are counted
      pub there : {n : ℕ} {l : List ℕ} → answer ≡ Ok n → l ≡ encode_output rule t destination source body out → There n l
      unfolding encode_answer write_answer encode_output write_output
      there {n} {l} told left =
          let count : n ≡ length frame = (none_failed (length frame) _ is told).1 in
          let front : l ≡ at_front frame out = left ∙ answered_value (λ _. out) (at_front frame out) none in
          record {
            octets = ap₂ (λ (i : ℕ) (s : List ℕ). take i s) count front ∙ take_front frame out;
            least = omega (arith, count, frame_size_lem);
            most = omega (arith, count, frame_size_lem);
          }
