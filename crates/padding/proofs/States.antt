-- The state after some octets and one more is the next state.
-- Assumes nothing.
use mathlib.Core.Path.{◌≡◌, refl, sym, ap, subst, ◌∙◌}
use mathlib.Core.Bool.{Bool, true, false}
use mathlib.Core.List.{List, [], ◌∷◌, ◌++◌, reverse}
use Prim.Native.Nat.{ℕ, zero, suc, ◌+◌, ◌-◌, ◌^◌, ◌≤◌, ◌<◌}
use native.Mathlib.Omega.{arith}
use native.Mathlib.Numerals.{add-one}
use borrow.Author.Tests.{lt-ltb, lt-leb, le-leb, eq-eqb, ne_eqb, eqb-true, eqb-false}
use lib.Dec.{eqb}
use lib.ListN.{length, get_or, drop, length-append}
use lib.Seq.{get_or_at}
use Rattle.std.specs.List.{fold}
use Rattle.std.proofs.lemmas.List.{append_assoc, append-nil, get_or-reverse}
use Rattle.runs.specs.Front.{is, front, equal_at_end}
use Rattle.runs.proofs.Back.{same, back_le}
use Rattle.runs.proofs.More.{more_again, more_anew}
use Rattle.padding.specs.Padding.{last, end_length, padding_length}
use Rattle.padding.specs.State.{state, after, one_more, run_with, next, counted}
use Rattle.padding.specs.Laws.{InMemory, Follows, Counts, StepExample, LengthExample}
use Rattle.padding.specs.declared.PaddingState.{PaddingState}

-- the last octet of octets with one more, and without the first
last_more : (s : List ℕ) (x : ℕ) → last (s ++ (x ∷ [])) ≡ x
last_more s x = get_or_at s x [] 0 (length (s ++ (x ∷ [])) - 1) (omega (arith, length-append s (x ∷ [])))

pub last_behind : (s : List ℕ) → 2 ≤ length s → get_or (reverse (drop 1 s)) 0 0 ≡ last s
last_behind [] h = absurd (omega arith)
last_behind (y ∷ t) h = get_or-reverse t 0 0 (omega arith) ∙ same (y ∷ t) (suc (length t - 1 - 0)) (suc (length t) - 1) (omega arith)

-- the run with an octet more: another octet, the same
module _ (a : PaddingState) (x : ℕ) (some : a.started ≡ true) where
  run_anew : (x ≡ a.last → ⊥) → 1 ≡ run_with a x
  unfolding run_with
  run_anew d = rw (some, ne_eqb x a.last d)

  run_again : x ≡ a.last → one_more a.run ≡ run_with a x
  unfolding run_with
  run_again e = rw (some, eq-eqb x a.last e)

-- one more, as long as it is a number
one_more_lem : (n : ℕ) → n + 1 < 2 ^ 64 → n + 1 ≡ one_more n
unfolding one_more
one_more_lem n h = rw (lt-ltb n (2 ^ 64 - 1) (omega arith))

-- an octet that equals the last one, behind the first
again_behind : (y : ℕ) (t : List ℕ) (x : ℕ) → x ≡ last (y ∷ t) → equal_at_end (t ++ (x ∷ [])) ≡ suc (equal_at_end t)
unfolding front
again_behind y [] x e = more_anew [] x (λ l f. omega arith)
again_behind y (z ∷ t) x e = more_again (z ∷ t) x (last_behind (y ∷ z ∷ t) (omega arith) ∙ sym e)

-- so the run is that of the octets and one more
run_more : (s : List ℕ) (x : ℕ) → InMemory s → run_with (after s) x ≡ end_length (s ++ (x ∷ []))
unfolding after end_length front run_with
run_more [] x fits = refl
run_more (y ∷ t) x fits = go (eqb x (last (y ∷ t))) refl
  where
    some : (after (y ∷ t)).started ≡ true
    some = lt-ltb 0 (length (y ∷ t)) (omega arith)

    go : (b : Bool) → eqb x (last (y ∷ t)) ≡ b → run_with (after (y ∷ t)) x ≡ equal_at_end (t ++ (x ∷ []))
    go true e =
        let f = eqb-true x (last (y ∷ t)) e in
        sym (run_again (after (y ∷ t)) x some f)
        ∙ sym (one_more_lem (equal_at_end t) (omega (arith, back_le (is (get_or (reverse t) 0 0)) t)))
        ∙ add-one (equal_at_end t)
        ∙ sym (again_behind y t x f)
    go false e =
        let d = eqb-false x (last (y ∷ t)) e in
        sym (run_anew (after (y ∷ t)) x some d) ∙ sym (more_anew t x (λ l f. d (sym f ∙ last_behind (y ∷ t) (omega arith))))

-- and so is the state
is_after : (s : List ℕ) (x : ℕ) {n : ℕ} → n ≡ end_length (s ++ (x ∷ [])) → state true x n ≡ after (s ++ (x ∷ []))
unfolding after
is_after s x e = rw (lt-ltb 0 (length (s ++ (x ∷ []))) (omega (arith, length-append s (x ∷ []))), last_more s x, e)

after_more : (s : List ℕ) (x : ℕ) → InMemory s → next (after s) x ≡ after (s ++ (x ∷ []))
after_more s x fits = is_after s x (run_more s x fits)

-- equal octets: one, and n more
equals : ℕ → ℕ → List ℕ
equals x zero = x ∷ []
equals x (suc n) = equals x n ++ (x ∷ [])

equals_size : (x n : ℕ) → length (equals x n) ≡ suc n
unfolding equals
equals_size x zero = refl
equals_size x (suc n) = omega (arith, length-append (equals x n) (x ∷ []), equals_size x n)

equals_state : (x n : ℕ) → n < 2 ^ 64 → after (equals x n) ≡ state true x n
unfolding equals after end_length front
equals_state x zero fits = refl
equals_state x (suc n) fits =
    sym (after_more (equals x n) x (omega (arith, equals_size x n)))
    ∙ ap (λ (a : PaddingState). next a x) (equals_state x n (omega arith))
    ∙ ap (state true x) (sym (run_again (state true x n) x refl refl) ∙ sym (one_more_lem n (omega arith)) ∙ add-one n)

pub step_example : StepExample
unfolding equals after end_length front
step_example = record {
  one = λ x. refl;
  two = λ x y. ap (state true y) (more_anew [] y (λ l e. omega arith));
  most = λ x n r h f.
      f (equals x n) (omega (arith, equals_size x n)) (sym (equals_state x n (omega arith)))
      ∙ equals_state x (suc n) (omega arith)
      ∙ ap (state true x) (sym (add-one n));
}

-- what the contract says of the next state
pub follows : (a : PaddingState) (x n : ℕ) → n ≡ run_with a x → Follows a x (state true x n)
follows a x n e s fits f = rw (e, f) (after_more s x fits)

-- steps one by one
pub fold_after : (s : List ℕ) → InMemory s → fold next (after []) s ≡ after s
fold_after s fits = go [] s fits
  where
    go : (front s : List ℕ) → InMemory (front ++ s) → fold next (after front) s ≡ after (front ++ s)
    go front [] fits = rw append-nil
    go front (x ∷ s) fits =
        ap (λ (a : PaddingState). fold next a s) (after_more front x (omega (arith, length-append front (x ∷ s))))
        ∙ subst (λ t. InMemory t → fold next (after (front ++ (x ∷ []))) s ≡ after t) (append_assoc front (x ∷ []) s) (go (front ++ (x ∷ [])) s) fits

-- the padding of the octets so far: all of the run, or none
pub counts : (a : PaddingState) (n : ℕ) → n ≡ counted a → Counts a n
unfolding counted after padding_length
counts a n e s f = e ∙ rw f

pub length_example : LengthExample
unfolding counted
length_example = record {
  some = λ x n m h fits f.
      let e = sym (equals_state x n fits) in
      f (equals x n) e ∙ sym (counts (state true x n) n (rw (le-leb 4 n h)) (equals x n) e);
  few = λ x n m h f.
      let e = sym (equals_state x n (omega arith)) in
      f (equals x n) e ∙ sym (counts (state true x n) 0 (rw (lt-leb 4 n h)) (equals x n) e);
}
