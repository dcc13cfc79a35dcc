-- What reading and validating answer, with what each promises.
-- Assumes nothing.
use mathlib.Core.Path.{◌≡◌, refl, sym, ap, subst, ◌∙◌}
use mathlib.Core.List.{List, []}
use Prim.Native.Nat.{ℕ, zero, suc, ◌+◌, ◌-◌, ◌≤◌}
use native.Mathlib.Omega.{arith}
use borrow.Author.Tests.{le-leb, leb-true}
use lib.ListN.{length, take, drop, length-drop}
use lib.Seq.{length-take-le}
use Rattle.std.specs.Prelude.{Result, IsOk, IfOk}
use Rattle.octets.specs.Question.{first_no, answered}
use Rattle.octets.specs.Refusal.{result_of}
use Rattle.octets.specs.declared.refusal.Refusal.{Refusal}
use Rattle.octets.proofs.Parts.{Octets}
use Rattle.octets.proofs.Questions.{all_yes, refusal, acceptance}
use Rattle.ethernet_decode.specs.declared.EthernetHeader.{EthernetHeader}
use Rattle.ethernet_decode.specs.declared.EthernetForm.{EthernetForm}
use Rattle.ethernet_decode.specs.declared.EthernetForm.TheVariants.{EtherType, Length}
use Rattle.ethernet_decode.specs.Decode.{destination_of, source_of, form_questions, header_questions, decode_questions, decode_question, payload_length, header, accepted, decode, payload, validate_questions, validate}
use Rattle.ethernet_decode.specs.RoundTrip.{LaidOut, WritesBack, FrameOf, OneForm, PayloadOf, Agrees}
use Rattle.ethernet_decode.proofs.Frames.{Accepted, counted, facts, laid_out, decode_back, payload_back_lem}

-- an answer is a value exactly where no question fails
module _ {A : Type 0} (value : A) where
  ok_none : (q : ℕ) → IsOk (result_of q value) → q ≡ 0
  unfolding answered
  ok_none zero e = refl
  ok_none (suc q) e = absurd (cc)

  none_ok : {q : ℕ} → q ≡ 0 → IsOk (result_of q value)
  unfolding answered
  none_ok none = rw none

  -- what holds of the value, where no question fails, holds of the answer
  ok_if : (P : A → Type 0) (q : ℕ) → (q ≡ 0 → P value) → IfOk (result_of q value) P
  unfolding answered
  ok_if P zero holds = holds refl
  ok_if P (suc q) holds = tt

-- a length of at most 1500 is not 82 DC
not_both : (s : List ℕ) → Accepted EtherType s → Accepted Length s → ⊥
not_both s a b = omega (arith, a.right, b.enough, b.ends)

one_form : (s : List ℕ) (form other : EthernetForm) → Accepted form s → Accepted other s → other ≡ form
one_form s EtherType EtherType a b = refl
one_form s EtherType Length a b = absurd (not_both s a b)
one_form s Length EtherType a b = absurd (not_both s b a)
one_form s Length Length a b = refl

module _ (form : EthernetForm) (s : List ℕ) where
  abbrev read : EthernetHeader
  read = header (destination_of s) (source_of s) (payload_length form s)

  accepts_none : IsOk (decode form s) → decode_question form s ≡ 0
  unfolding decode
  accepts_none = ok_none read (decode_question form s)

  none_accepts : decode_question form s ≡ 0 → IsOk (decode form s)
  unfolding decode
  none_accepts = none_ok read

module _ (form : EthernetForm) (s : List ℕ) where
  -- the answer of reading, and what it promises
  abbrev Decoded : Result EthernetHeader Refusal → Type 0
  Decoded answer = (answer ≡ decode form s) × (WritesBack form s answer × (FrameOf form s answer × OneForm form s answer))

  -- what is read is laid out so
  whole : Octets s → decode_question form s ≡ 0 → LaidOut form s (destination_of s) (source_of s) (payload form s)
  unfolding payload
  whole octets none =
      let a = facts s form none in
      record {
        behind = drop (payload_length form s) (drop 17 s);
        destination_size = length-take-le 6 s (omega (arith, a.long));
        source_size = length-take-le 6 (drop 6 s) (omega (arith, a.long, length-drop 6 s));
        octets = rw (← (acceptance (λ _. []) (counted form s) refl none)) (laid_out s form octets a);
        ends = a.ends;
      }

  only : decode_question form s ≡ 0 → (other : EthernetForm) → IsOk (decode other s) → other ≡ form
  only none other taken = one_form s form other (facts s form none) (facts s other (accepts_none other s taken))

  pub decoded : Octets s → {answer : Result EthernetHeader Refusal} → answer ≡ decode form s → Decoded answer
  unfolding decode
  decoded octets e = (
    e,
    (
      rw e (ok_if (read form s) _ (decode_question form s) (whole octets)),
      (λ d f body laid. e ∙ decode_back form s d f body laid, rw e (ok_if (read form s) _ (decode_question form s) only)),
    ),
  )

  -- the payload, and what it promises
  abbrev Payload : List ℕ → Type 0
  Payload part = (part ≡ payload form s) × PayloadOf form s part

  payload_of_lem : {part : List ℕ} → part ≡ payload form s → Payload part
  payload_of_lem e = (e, λ d f body laid. e ∙ payload_back_lem form s d f body laid)

  pub payload_refused : (decode_question form s ≡ 0 → ⊥) → Payload []
  unfolding payload
  payload_refused fails = payload_of_lem (refusal (λ _. []) (counted form s) refl fails)

  pub payload_accepted : decode_question form s ≡ 0 → {end : ℕ} → end ≡ 17 + payload_length form s → Payload (take (end - 17) (drop 17 s))
  unfolding payload
  payload_accepted none {end} e =
      let n : end - 17 ≡ payload_length form s = omega arith in
      payload_of_lem (ap (λ (k : ℕ). take k (drop 17 s)) n ∙ acceptance (λ _. []) (counted form s) refl none)

  -- octets that reading gives these addresses of are a frame without padding, and what stands behind it
  pub read_is : Octets s → {d f : List ℕ} {n : ℕ} → decode form s ≡ accepted d f n → LaidOut form s d f (payload form s)
  read_is octets told =
      let promised = (decoded octets refl).1.0 in subst (WritesBack form s) told promised

module _ (s : List ℕ) where
  -- the validator's questions are those of reading, if there are at most 1514 octets
  pub same_questions : length s ≤ 1514 → first_no (validate_questions s) ≡ decode_question EtherType s
  unfolding validate_questions decode_question decode_questions header_questions form_questions first_no
  same_questions few = rw (le-leb (length s) 1514 few)

  few_octets : first_no (validate_questions s) ≡ 0 → length s ≤ 1514
  unfolding validate_questions header_questions form_questions
  few_octets none =
      let all = all_yes (validate_questions s) tt none in leb-true (length s) 1514 all.1.0

  -- the validator's answer, and what it promises
  pub validated : {answer : Result (Unit {0}) Refusal} → answer ≡ validate s → (answer ≡ validate s) × Agrees s answer
  unfolding validate
  validated e = (
    e,
    (
      λ yes. let none = ok_none tt (first_no (validate_questions s)) (subst IsOk e yes) in
          let few = few_octets none in
          (none_accepts EtherType s (sym (same_questions few) ∙ none), few),
      λ both. subst IsOk (sym e) (none_ok tt (same_questions both.1 ∙ accepts_none EtherType s both.0)),
    ),
  )
