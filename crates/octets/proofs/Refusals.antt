-- Laws of what a call answers that may refuse: a proof of a reader or a writer goes through them.
-- Assumes nothing.
use mathlib.Core.Path.{◌≡◌, refl, ap, ◌∙◌}
use mathlib.Core.Bool.{Bool, true, false}
use mathlib.Core.List.{List, [], ◌∷◌}
use Prim.Native.Nat.{ℕ, zero, suc}
use native.Mathlib.Omega.{arith}
use borrow.Author.Tests.{eqb-false}
use lib.Dec.{eqb}
use Rattle.std.specs.Prelude.{Result, Ok, Err}
use Rattle.octets.specs.Question.{Question, ask, first_no, answered}
use Rattle.octets.specs.Refusal.{refusal_of, refused, result_of}
use Rattle.octets.specs.declared.refusal.Refusal.{Refusal}
use Rattle.octets.proofs.Questions.{refusal, acceptance}

-- no answer is both
pub ok_or_refused : {A : Type 0} {r : Result A Refusal} {x : A} {e : Refusal} → r ≡ Ok x → r ≡ Err e → ⊥
ok_or_refused ok err = let z : ◌≡◌ {A = ℕ} 0 1 = cc in omega arith

-- a value is the answer where no question failed, a refusal where one did
module _ {A : Type 0} (value : A) {q : ℕ} where
  pub accepts : q ≡ 0 → Ok value ≡ result_of q value
  accepts none = acceptance refused (Ok value) refl none

  pub refuses : (q ≡ 0 → ⊥) → refused q ≡ result_of q value
  refuses fails = refusal refused (Ok value) refl fails

-- of an answer to questions: it is a value and none failed, or it refuses by the one that failed
module _ {A : Type 0} (value : A) (q : ℕ) {r : Result A Refusal} (asked : r ≡ result_of q value) where
  pub none_failed : {x : A} → r ≡ Ok x → (q ≡ 0) × (x ≡ value)
  unfolding answered
  none_failed {x} ok = cases q asked
    where
      cases : (q : ℕ) → r ≡ result_of q value → (q ≡ 0) × (x ≡ value)
      cases zero asked = (refl, cc)
      cases (suc q) asked = absurd (ok_or_refused ok asked)

  pub one_failed : {e : Refusal} → r ≡ Err e → (q ≡ 0 → ⊥) × (e ≡ refusal_of q)
  unfolding answered
  one_failed {e} err = cases q asked
    where
      cases : (q : ℕ) → r ≡ result_of q value → (q ≡ 0 → ⊥) × (e ≡ refusal_of q)
      cases zero asked = absurd (ok_or_refused asked err)
      cases (suc q) asked = (λ z. omega arith, cc)

  -- who hands a refusal on (`?`) refuses by the same question
  pub handed_on : {B : Type 0} (other : B) {e : Refusal} → r ≡ Err e → Err e ≡ result_of q other
  handed_on other err =
      let f = one_failed err in ap Err f.1 ∙ refuses other f.0

-- answers to questions one by one: one answered yes leaves those behind it, one answered no is the first
module _ {A : Type 0} (value : A) where
  pub passes : {r : Result A Refusal} (number : ℕ) {holds : Bool} (questions : List Question)
      → holds ≡ true → r ≡ result_of (first_no questions) value → r ≡ result_of (first_no (ask number holds ∷ questions)) value
  unfolding first_no
  passes number questions e p = rw e p

  pub fails : (number : ℕ) {holds : Bool} (questions : List Question) → eqb number 0 ≡ false → holds ≡ false
      → refused number ≡ result_of (first_no (ask number holds ∷ questions)) value
  unfolding first_no
  fails number questions some e = rw e (refuses value (eqb-false number 0 some))

  pub ends : Ok value ≡ result_of (first_no []) value
  unfolding first_no answered
  ends = refl
