-- What the questions of a message say: a proof of a function cites one law for each return.
-- Assumes nothing.
use mathlib.Core.Path.{◌≡◌, refl, ap, ◌∙◌}
use mathlib.Core.List.{List}
use Prim.Native.Nat.{ℕ}
use borrow.Author.Tests.{eq-eqb, ne_eqb}
use lib.ListN.{length}
use Rattle.std.specs.Prelude.{Result, Ok, Err}
use Rattle.octets.specs.Question.{first_no}
use Rattle.octets.specs.Refusal.{refused, result_of}
use Rattle.octets.specs.declared.refusal.Refusal.{Refusal}
use Rattle.octets.proofs.Questions.{fails_before, passes_before}
use Rattle.octets.proofs.Refusals.{passes, fails, none_failed, one_failed, handed_on}
use Rattle.bip_header.specs.declared.BvlcHeader.{BvlcHeader}
use Rattle.bip_header.specs.Function.{function_number}
use Rattle.bip_header.specs.Header.{header_questions, header_question, message_length, decode}
use Rattle.bip_header.proofs.Headers.{asks}
use Rattle.bip_message.specs.declared.BvlcMessage.{BvlcMessage}
use Rattle.bip_message.specs.Message.{npdu_asked, message_of, carried_by, questions_behind, message_questions, message_question, process}

module _ (s : List ℕ) where
  -- a header that is refused refuses the message
  pub header_refused : {e : Refusal} → decode s ≡ Err e → Err e ≡ process s
  unfolding process message_question message_questions header_question
  header_refused err =
      handed_on _ _ (asks s) (carried_by s) err
      ∙ ap (λ (q : ℕ). result_of q (carried_by s))
      (fails_before (header_questions s) (questions_behind (message_length s) (length s) (carried_by s)) (one_failed _ _ (asks s) err).0)

  -- behind a header that is accepted the other questions decide, of its length n, which a number k counts, and of what it carries
  module _ {header : BvlcHeader} (ok : decode s ≡ Ok header) {k : ℕ} (counts : k ≡ header.length) where
    -- where they decide on an answer, so does the message
    behind : {m : BvlcMessage} {r : Result BvlcMessage Refusal} → m ≡ message_of (function_number header.function) s
        → r ≡ result_of (first_no (questions_behind k (length s) m)) m → r ≡ process s
    unfolding process message_question message_questions header_question header_questions
    behind em er =
        let t = none_failed _ _ (asks s) ok in
        er
        ∙ rw (em, counts, t.1)
        (ap (λ (q : ℕ). result_of q (carried_by s)) (passes_before (header_questions s) (questions_behind (message_length s) (length s) (carried_by s)) tt t.0))

    pub other_length : (k ≡ length s → ⊥) → refused 14 ≡ process s
    unfolding questions_behind
    other_length other = behind refl (fails _ 14 _ refl (ne_eqb k (length s) other))

    pub all_asked : {r : Result BvlcMessage Refusal} → k ≡ length s → r ≡ npdu_asked (message_of (function_number header.function) s) s → r ≡ process s
    unfolding questions_behind
    all_asked same asked = behind refl (passes _ 14 _ (eq-eqb k (length s) same) asked)
