-- Reading finds the changes of a written frame: what it accepts and what was written are both accepted.
-- Assumes nothing.
use mathlib.Core.Path.{◌≡◌, refl, sym, ap, subst, ◌∙◌}
use mathlib.Core.Bool.{true}
use mathlib.Core.List.{List}
use Prim.Native.Nat.{ℕ, zero, suc}
use native.Mathlib.Omega.{arith}
use lib.Bits.{bit_xor}
use lib.ListN.{get_or}
use Rattle.std.specs.Prelude.{Result}
use Rattle.std.proofs.lemmas.Bool.{false_from_ne_true}
use Rattle.octets.specs.Question.{answered}
use Rattle.octets.specs.Refusal.{result_of}
use Rattle.octets.specs.declared.refusal.Refusal.{Refusal}
use Rattle.octets.proofs.Parts.{Octets}
use Rattle.octets.proofs.Tests.{same_test}
use Rattle.crc.specs.declared.CheckRule.{CheckRule}
use Rattle.mstp_decode.specs.declared.MstpHeader.{MstpHeader}
use Rattle.mstp_decode.specs.Change.{WrittenFrame, is_frame, missed, FindsChanges}
use Rattle.mstp_decode.specs.Decode.{decode_question, header_of, decode}
use Rattle.mstp_decode.proofs.Accepted.{Accepted, accepted, accepts}
use Rattle.mstp_decode.proofs.ReadsBack.{question_back}
use Rattle.mstp_decode.proofs.Change.{header_found, data_found}
use Rattle.mstp_decode.proofs.OneOctet.{accepted_missed, missed_accepted, missed_is}

-- what was written is accepted
pub written_accepted : (rule : CheckRule) (s : List ℕ) → WrittenFrame rule s → Accepted rule s
written_accepted rule s w =
    accepted rule s
    (subst (λ (l : List ℕ). decode_question rule l ≡ 0) (sym w.laid_out)
    (question_back rule w.frame_type w.destination w.source w.body))

module _ (rule : CheckRule) (s : List ℕ) where
  -- a frame is read just where no question fails
  read_none : is_frame (decode rule s) ≡ true → decode_question rule s ≡ 0
  unfolding decode answered
  read_none e = by (decode_question rule s) e
    where
      by : (q : ℕ) → is_frame (result_of q (header_of s)) ≡ true → q ≡ 0
      by zero e = refl
      by (suc q) e = let z : ◌≡◌ {A = ℕ} 0 1 = cc in absurd (omega arith)

  none_read : decode_question rule s ≡ 0 → is_frame (decode rule s) ≡ true
  unfolding decode answered
  none_read e = rw e

  pub written_read : WrittenFrame rule s → is_frame (decode rule s) ≡ true
  written_read w = none_read (accepts rule s (written_accepted rule s w))

  module _ (octets : Octets s) {answer : Result MstpHeader Refusal} (e : answer ≡ decode rule s) where
    read : is_frame answer ≡ true → Accepted rule s
    read is = accepted rule s (read_none (ap is_frame (sym e) ∙ is))

    pub finds_changes : FindsChanges rule s answer
    finds_changes before w = record {
      octet = λ place d. same_test (is_frame answer) (missed rule place (bit_xor (get_or before place 0) (get_or s place 0)))
          (λ is. accepted_missed rule before s w.octets octets first (read is) place d)
          (λ is.
          let m = missed_is rule place (bit_xor (get_or before place 0) (get_or s place 0)) is in
          ap is_frame e
          ∙ none_read (accepts rule s (missed_accepted rule before s w.octets octets first place d m.0 m.1.0 m.1.1)));
      bits_in_header = λ burst. false_from_ne_true (is_frame answer) (λ is. header_found rule before s w.octets octets first (read is) burst);
      bits_in_data = λ burst. false_from_ne_true (is_frame answer) (λ is. data_found rule before s w.octets octets first (read is) burst);
    }
      where
        first : Accepted rule before
        first = written_accepted rule before w
