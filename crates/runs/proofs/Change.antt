-- What one changed octet can do to a count and to the longest run.
-- Assumes nothing.
use mathlib.Core.Path.{◌≡◌, sym, ap, subst, ◌∙◌}
use Prim.Native.Nat.{ℕ, zero, suc, ◌+◌, ◌*◌, ◌-◌, ◌≤◌, ◌<◌}
use native.Mathlib.Omega.{arith, by_contra}
use mathlib.Core.Bool.{Bool, cond}
use mathlib.Core.List.{List, [], ◌∷◌}
use lib.ListN.{get_or}
use lib.Seq.{ext_get_or}
use Rattle.octets.specs.Change.{DifferAt}
use Rattle.octets.proofs.Change.{differ_drop}
use Rattle.runs.specs.Front.{count}
use Rattle.runs.specs.Longest.{longest, OneValue}
use Rattle.runs.proofs.Back.{same}
use Rattle.runs.proofs.Count.{one_at_most}
use Rattle.runs.proofs.Longest.{longest_law}

-- behind a changed first octet all is the same
first_changed : (x y : ℕ) (s t : List ℕ) → DifferAt 0 (x ∷ s) (y ∷ t) → t ≡ s
first_changed x y s t d = ext_get_or 0 t s (omega (arith, d.same_length)) (λ i h. d.others (suc i) (λ e. omega arith))

-- behind a first octet that is not changed they differ in one
later_changed : (place x y : ℕ) (s t : List ℕ) → DifferAt (suc place) (x ∷ s) (y ∷ t) → DifferAt place s t
later_changed place x y s t d =
    let next : suc place ≡ 1 + place = omega arith in
    differ_drop 1 place (x ∷ s) (y ∷ t) (subst (λ (i : ℕ). DifferAt i (x ∷ s) (y ∷ t)) next d)

-- a count falls by at most 1
pub count_change : (p : ℕ → Bool) (s t : List ℕ) (place : ℕ) → DifferAt place s t → count p s ≤ count p t + 1
unfolding count
count_change p [] t place d = omega arith
count_change p (x ∷ s) [] place d = absurd (omega (arith, d.same_length))
count_change p (x ∷ s) (y ∷ t) zero d = omega (arith, one_at_most (p x), ap (count p) (first_changed x y s t d))
count_change p (x ∷ s) (y ∷ t) (suc place) d =
    let e : y ≡ x = d.others 0 (λ e. omega arith) in
    let one : ◌≡◌ {A = ℕ} (cond (p y) 1 0) (cond (p x) 1 0) = rw e in
    omega (arith, count_change p s t place (later_changed place x y s t d))

-- octets of one value had one value before, as far as the changed place is not among them
module _ (s t : List ℕ) (place : ℕ) (d : DifferAt place s t) (i n : ℕ) (v : OneValue t i n) where
  value_before : (j m : ℕ) → i ≤ j → j + m ≤ i + n → ((k : ℕ) → k < m → j + k ≡ place → ⊥) → OneValue s j m
  value_before j m a b off = (
    omega (arith, d.same_length, v.0),
    λ k h. at k h ∙ sym (at 0 (omega arith)) ∙ same s (j + 0) j (omega arith),
  )
    where
      at : (k : ℕ) → k < m → get_or s (j + k) 0 ≡ get_or t i 0
      at k h = sym (d.others (j + k) (off k h)) ∙ same t (j + k) (i + (j + k - i)) (omega arith) ∙ v.1 (j + k - i) (omega arith)

-- the longest run is at most twice as long as before, plus 1
pub run_change : (s t : List ℕ) (place : ℕ) → DifferAt place s t → (longest t).length ≤ 2 * (longest s).length + 1
run_change s t place d =
    by_contra _ _ (λ more.
    let a : i ≤ place = by_contra _ _ (λ h. omega (arith, most i n (omega arith) (omega arith) (λ k l e. omega arith))) in
    let b : place < i + n = by_contra _ _ (λ h. omega (arith, most i n (omega arith) (omega arith) (λ k l e. omega arith))) in
    omega (
      arith,
      most i (place - i) (omega arith) (omega arith) (λ k l e. omega arith),
      most (place + 1) (i + n - (place + 1)) (omega arith) (omega arith) (λ k l e. omega arith),
    ))
  where
    i : ℕ
    i = (longest t).start

    n : ℕ
    n = (longest t).length

    most : (j m : ℕ) → i ≤ j → j + m ≤ i + n → ((k : ℕ) → k < m → j + k ≡ place → ⊥) → m ≤ (longest s).length
    most j m a b off = (longest_law s).most j m (value_before s t place d i n (longest_law t).same j m a b off)
