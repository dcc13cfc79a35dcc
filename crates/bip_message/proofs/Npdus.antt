-- The NPDU of a message: a part of its octets, and all of what was sent.
-- Assumes nothing.
use mathlib.Core.Path.{◌≡◌, refl, sym, ap, ap₂, ◌∙◌}
use mathlib.Core.Bool.{Bool, true, false, cond}
use mathlib.Core.List.{List, [], ◌∷◌, ◌++◌}
use Prim.Native.Nat.{ℕ, zero, suc, ◌+◌, ◌-◌, ◌≤◌, ◌<◌}
use native.Mathlib.Omega.{arith}
use borrow.Author.Tests.{eq-eqb, eqb-true, lt-ltb, ltb-true}
use lib.Dec.{eqb}
use lib.ListN.{length, get_or, take, drop, length-append, length-drop, take-append-drop}
use lib.Seq.{take_all, drop-append-add, drop_at, drop-drop, length-take-le}
use Rattle.std.specs.Prelude.{Result, Ok, Err}
use Rattle.octets.specs.Number.{number}
use Rattle.octets.specs.Range as range
use Rattle.octets.specs.Question.{answered}
use Rattle.octets.specs.Refusal.{result_of}
use Rattle.octets.specs.declared.refusal.Refusal.{Refusal}
use Rattle.octets.proofs.Parts.{Octets}
use Rattle.octets.proofs.Questions.{all_yes, none_fails, passes_before}
use Rattle.octets.proofs.Refusals.{accepts, none_failed}
use Rattle.bip_header.specs.declared.function.BvlcFunction.{BvlcFunction}
use Rattle.bip_header.specs.declared.BvlcHeader.{BvlcHeader}
use Rattle.bip_header.specs.Function.{function_number}
use Rattle.bip_header.specs.Header.{new_header, header_octets, header_questions, header_question, message_function, message_length, decode}
use Rattle.bip_header.proofs.Headers.{header_back, four_octets, asks}
use Rattle.bip_message.specs.declared.BvlcMessage.{BvlcMessage}
use Rattle.bip_message.specs.declared.BvlcMessage.TheVariants.{Npdu, TimeToLive, NoNpdu}
use Rattle.bip_message.specs.Message.{registration, message_of, carried_by, npdu_there, questions_behind, message_questions, message_question, process, npdu_of, npdu, LaidOut, LeastLaidOut, Whole, Carries}

module _ (s : List ℕ) where
  -- an NPDU that is answered starts within the message
  pub within : {start : ℕ} → process s ≡ Ok (Npdu start) → start < length s
  unfolding process message_question message_questions header_questions questions_behind
  within {start} told =
      let t = none_failed (carried_by s) (message_question s) refl told in
      let all = all_yes (message_questions s) tt t.0 in
      ltb-true start (length s) (ap (λ (m : BvlcMessage). npdu_there m (length s)) t.1 ∙ all.1.1.1.1.0)

  -- a registration is no NPDU, and every NPDU stands behind the header
  no_npdu : {start : ℕ} → registration s ≡ Npdu start → ⊥
  unfolding registration
  no_npdu e = by (eqb (length s) 6) (number (get_or s 4 0) (get_or s 5 0)) e
    where
      by : (six : Bool) (n : ℕ) {start : ℕ} → cond six (TimeToLive n) NoNpdu ≡ Npdu start → ⊥
      by true n e = cc
      by false n e = cc

  behind : (n : ℕ) {start : ℕ} → message_of n s ≡ Npdu start → 4 ≤ start
  behind n e = by (range.within 0x0A 0x0B n) (eqb n 0x04) (eqb n 0x05) e
    where
      by : (a b c : Bool) {start : ℕ} → cond a (Npdu 4) (cond b (Npdu 10) (cond c (registration s) NoNpdu)) ≡ Npdu start → 4 ≤ start
      by true b c {start} e = let z : 4 ≡ start = cc in omega arith
      by false true c {start} e = let z : 10 ≡ start = cc in omega arith
      by false false true e = absurd (no_npdu e)
      by false false false e = absurd (cc)

  -- where an NPDU is answered, the message is the layout of it
  laid_out : Octets s → {start : ℕ} → process s ≡ Ok (Npdu start) → (address : List ℕ) × LaidOut s (message_function s) address (drop start s)
  unfolding process message_question message_questions header_question header_questions questions_behind message_function message_length
  laid_out octets {start} told =
      let t = none_failed (carried_by s) (message_question s) refl told in
      let all = all_yes (message_questions s) tt t.0 in
      let none : header_question s ≡ 0 = none_fails (header_questions s) (all.0, (all.1.0, (all.1.1.0, tt))) in
      let four : take 4 s ≡ header_octets (message_function s) (message_length s) = four_octets s octets none in
      let said : message_length s ≡ length s = eqb-true (message_length s) (length s) all.1.1.1.0 in
      let least = behind (function_number (message_function s)) (sym t.1) in
      let inside = within told in
      let size : length (take (start - 4) (drop 4 s)) ≡ start - 4
      = length-take-le (start - 4) (drop 4 s) (omega (arith, length-drop 4 s)) in
      let place : 4 + (start - 4) ≡ start = omega arith in (
        take (start - 4) (drop 4 s),
        record {
          carried = sym t.1 ∙ ap Npdu (sym place ∙ ap (λ (n : ℕ). 4 + n) (sym size));
          octets = sym (take-append-drop 4 s)
              ∙ ap₂ (λ (a b : List ℕ). a ++ b) (four ∙ ap (header_octets (message_function s)) said)
              (sym (take-append-drop (start - 4) (drop 4 s))
              ∙ ap (λ (l : List ℕ). take (start - 4) (drop 4 s) ++ l) (drop-drop (start - 4) 4 s ∙ ap (λ (n : ℕ). drop n s) place));
        },
      )

  -- where nothing stands behind the place, the NPDU is nothing, handed on or refused
  nothing : (start q : ℕ) → drop start s ≡ [] → npdu_of (result_of q (Npdu start)) s ≡ []
  unfolding answered
  nothing start zero none = none
  nothing start (suc q) none = refl

  -- a message that is a header, an address and a body
  module _ (f : BvlcFunction) (address body : List ℕ)
      (told : message_of (function_number f) s ≡ Npdu (4 + length address)) (e : s ≡ header_octets f (length s) ++ (address ++ body)) where
    abbrev start : ℕ
    start = 4 + length address

    read : (header_question s ≡ 0) × (new_header f (length s) ≡ new_header (message_function s) (message_length s))
    read = none_failed _ _ (asks s) (ap decode e ∙ header_back f (length s) (address ++ body))

    carries : carried_by s ≡ Npdu start
    carries = ap (λ (h : BvlcHeader). message_of (function_number h.function) s) (sym read.1) ∙ told

    rest : drop start s ≡ body
    rest =
        ap (λ (l : List ℕ). drop start l) e
        ∙ drop-append-add (header_octets f (length s)) (address ++ body) (length address)
        ∙ drop_at address body (length address) refl

    size : length s ≡ 4 + (length address + length body)
    size = ap length e ∙ simp length-append (omega arith)

    -- with an octet in the body no question fails
    none : 0 < length body → message_question s ≡ 0
    unfolding message_question message_questions header_question header_questions questions_behind
    none some =
        sym (passes_before (header_questions s) (questions_behind (message_length s) (length s) (carried_by s)) tt read.0)
        ∙ none_fails (questions_behind (message_length s) (length s) (carried_by s))
        (eq-eqb (message_length s) (length s) (ap (λ (h : BvlcHeader). h.length) (sym read.1)), (rw carries (lt-ltb start (length s) (omega (arith, size))), tt))

    -- the NPDU is the body
    npdu_of_lem : (b : List ℕ) → body ≡ b → npdu s ≡ b
    unfolding npdu process
    npdu_of_lem [] is = rw carries (nothing start (message_question s) (rest ∙ is))
    npdu_of_lem (x ∷ b) is =
        ap (λ (r : Result BvlcMessage Refusal). npdu_of r s) (sym (accepts (carried_by s) (none (omega (arith, ap length is)))) ∙ ap Ok carries)
        ∙ rest ∙ is

  pub whole : Whole s (npdu s)
  whole f address body laid = npdu_of_lem f address body laid.carried laid.octets body refl

  -- what `npdu` answers
  abbrev Part : List ℕ → Type 0
  Part part = (part ≡ npdu s) × (Whole s part × (Carries s (process s) part × LeastLaidOut))

  part : {p : List ℕ} {r : Result BvlcMessage Refusal} → process s ≡ r → p ≡ npdu_of r s → Carries s r p → Part p
  unfolding npdu range.within
  part {p} told e holds =
      let is : p ≡ npdu s = e ∙ sym (ap (λ (r : Result BvlcMessage Refusal). npdu_of r s) told) in
      (is, (λ f address body laid. is ∙ whole f address body laid, (rw told holds, record { carried = refl; octets = refl })))

  pub part_npdu : Octets s → {start : ℕ} → process s ≡ Ok (Npdu start) → Part (take (length s - start) (drop start s))
  part_npdu octets {start} told =
      let all = take_all (length s - start) (drop start s) (omega (arith, length-drop start s)) in
      part told all (rw all (laid_out octets told))

  pub part_refused : {e : Refusal} → process s ≡ Err e → Part []
  part_refused told = part told refl tt

  pub part_other : (m : BvlcMessage) → ((start : ℕ) → m ≡ Npdu start → ⊥) → process s ≡ Ok m → Part []
  part_other (Npdu start) other told = absurd (other start refl)
  part_other (TimeToLive n) other told = part told refl tt
  part_other NoNpdu other told = part told refl tt
