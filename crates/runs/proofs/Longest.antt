-- Laws of the longest run: it is what it should be, and there is only one.
-- Assumes nothing.
use mathlib.Core.Path.{◌≡◌, refl, sym, ◌∙◌}
use Prim.Native.Nat.{ℕ, zero, suc, ◌+◌, ◌-◌, ◌≤◌, ◌<◌}
use native.Mathlib.Omega.{arith}
use native.Mathlib.Nat.{eq-or-lt_of_le}
use mathlib.Core.Logic.{◌⊎◌, inl, inr, ⊎_elim}
use mathlib.Core.Bool.{Bool, true, false}
use mathlib.Core.List.{List, [], ◌∷◌, reverse}
use lib.ListN.{length, get_or, take}
use lib.Seq.{get_or-take, length-take-le, take-take, take-length}
use lib.Dec.{ltb}
use borrow.Author.Tests.{lt-ltb, le-ltb, ltb-true, ltb-false}
use Rattle.std.proofs.lemmas.List.{get_or-reverse}
use Rattle.runs.specs.Front.{is, front, equal_at_end}
use Rattle.runs.specs.Longest.{run, last_run, longer, longest_within, longest, OneValue, Longest, OnlyLongest}
use Rattle.runs.specs.Example.{Leaves, Example}
use Rattle.runs.specs.declared.Run.{Run}
use Rattle.runs.proofs.Front.{is_eq, is_true}
use Rattle.runs.proofs.Back.{same, back_le, back_all, back_most}

-- the second where it is longer, else the first
pub longer_second : (a b : Run) → a.length < b.length → b ≡ longer a b
unfolding longer
longer_second a b h = rw (lt-ltb a.length b.length h)

pub longer_first : (a b : Run) → b.length ≤ a.length → a ≡ longer a b
unfolding longer
longer_first a b h = rw (le-ltb a.length b.length h)

-- the run that octets end with
module _ (s : List ℕ) where
  ends_alike : (j : ℕ) → j < length s → length s ≤ j + equal_at_end s → get_or s j 0 ≡ get_or (reverse s) 0 0
  ends_alike j h l = is_true (get_or (reverse s) 0 0) (get_or s j 0) (back_all (is (get_or (reverse s) 0 0)) s j h l)

  ends_most : (i n : ℕ) → OneValue s i n → i + n ≡ length s → n ≤ equal_at_end s
  ends_most i zero v e = omega arith
  ends_most i (suc n) v e =
      let x = get_or (reverse s) 0 0 in
      let last : get_or s (i + n) 0 ≡ x = sym (get_or-reverse s 0 0 (omega arith) ∙ same s (length s - 1 - 0) (i + n) (omega arith)) in
      back_most (is x) s (suc n) (omega arith)
      (λ j h l. is_eq x (get_or s j 0) (same s j (i + (j - i)) (omega arith) ∙ v.1 (j - i) (omega arith) ∙ sym (v.1 n (omega arith)) ∙ last))

-- the longest run of s is that of the octets before the last one, or the run that s ends with
module _ (s : List ℕ) (i : ℕ) (size : length s ≡ suc i) {a : Run} (m : Longest (take i s) a) where
  some : 1 ≤ equal_at_end s
  some = ends_most s i 1 (omega arith, λ k l. same s (i + k) i (omega arith)) (omega arith)

  -- a stretch ends before the last octet, or with it
  value_cases : (j n : ℕ) → OneValue s j n → OneValue (take i s) j n ⊎ ((j + n ≡ suc i) × (n ≤ equal_at_end s))
  value_cases j n v =
      ⊎_elim
      (λ e. inr (omega arith, ends_most s j n v (omega arith)))
      (λ b. inl (
        omega (arith, length-take-le i s (omega arith)),
        λ k l. get_or-take i s (j + k) 0 (omega arith) ∙ v.1 k l ∙ sym (get_or-take i s j 0 (omega arith)),
      ))
      (eq-or-lt_of_le {n = j + n} {m = suc i} (omega (arith, v.0)))

  kept : equal_at_end s ≤ a.length → Longest s a
  kept b =
      let inside : a.start + a.length ≤ i = omega (arith, m.same.0, length-take-le i s (omega arith)) in
      let at : (k : ℕ) → k < i → get_or (take i s) k 0 ≡ get_or s k 0 = λ k l. get_or-take i s k 0 l in
      let z = some in
      record {
        same = (
          omega arith,
          λ k l. sym (at (a.start + k) (omega arith)) ∙ m.same.1 k l ∙ at a.start (omega arith),
        );
        value = m.value ∙ at a.start (omega arith);
        most = λ j n v. ⊎_elim (λ w. m.most j n w) (λ w. omega arith) (value_cases j n v);
        first = λ j n v g. ⊎_elim (λ w. m.first j n w g) (λ w. omega arith) (value_cases j n v);
      }

  ended : a.length < equal_at_end s → Longest s (last_run s)
  unfolding last_run
  ended b =
      let le = back_le (is (get_or (reverse s) 0 0)) s in
      let first = ends_alike s (length s - equal_at_end s) (omega arith) (omega arith) in
      record {
        same = (omega arith, λ k l. ends_alike s (length s - equal_at_end s + k) (omega arith) (omega arith) ∙ sym first);
        value = sym first;
        most = λ j n v. ⊎_elim (λ w. omega (arith, m.most j n w)) (λ w. w.1) (value_cases j n v);
        first = λ j n v g. ⊎_elim (λ w. absurd (omega (arith, m.most j n w))) (λ w. omega arith) (value_cases j n v);
      }

  longer_law : Longest s (longer a (last_run s))
  unfolding last_run
  longer_law = go (ltb a.length (equal_at_end s)) refl
    where
      go : (t : Bool) → ltb a.length (equal_at_end s) ≡ t → Longest s (longer a (last_run s))
      go true e = let h = ltb-true a.length (equal_at_end s) e in rw (← (longer_second a (last_run s) h)) (ended h)
      go false e = let h = ltb-false a.length (equal_at_end s) e in rw (← (longer_first a (last_run s) h)) (kept h)

-- of the first i octets
within_law : (s : List ℕ) (i : ℕ) → i ≤ length s → Longest (take i s) (longest_within i s)
unfolding longest_within
within_law s zero h = record {
  same = (omega arith, λ k l. refl);
  value = refl;
  most = λ i n v. omega (arith, v.0);
  first = λ i n v m. omega arith;
}
within_law s (suc i) h =
    longer_law (take (suc i) s) i (length-take-le (suc i) s h) (rw (take-take i (suc i) s (omega arith)) (within_law s i (omega arith)))

-- the longest run is what it should be
pub longest_law : (s : List ℕ) → Longest s (longest s)
longest_law s = rw (take-length s) at (within_law s (length s) (omega arith))

-- there is only one
pub only_longest : (s : List ℕ) → OnlyLongest s (longest s)
only_longest s other h =
    let l = longest_law s in
    let n : other.length ≡ (longest s).length = omega (arith, h.most _ _ l.same, l.most _ _ h.same) in
    let p : other.start ≡ (longest s).start = omega (arith, h.first _ _ l.same (omega arith), l.first _ _ h.same (omega arith)) in
    let x : other.octet ≡ (longest s).octet = h.value ∙ same s other.start (longest s).start p ∙ sym l.value in
    let e : run other.start other.octet other.length ≡ run (longest s).start (longest s).octet (longest s).length = rw (p, x, n) in
    e

-- the longest run is the one that is left
leaves : (s : List ℕ) → Leaves s (longest s)
leaves s r only = sym (only (longest s) (longest_law s))

pub example : Example
unfolding longest_within longer last_run front is
example = record {
  none = leaves [];
  one = leaves (0x41 ∷ []);
  equals = leaves (0x41 ∷ 0x42 ∷ 0x42 ∷ 0x41 ∷ 0x41 ∷ []);
}
