-- Laws of the octets at the end that equal the last one, and of the padding.
-- Assumes nothing.
use mathlib.Core.Path.{◌≡◌, sym, ap, ◌∙◌}
use mathlib.Core.Bool.{Bool, true, false, cond, ◌&&◌}
use mathlib.Core.List.{List, [], ◌∷◌, reverse}
use Prim.Native.Nat.{ℕ, zero, suc, ◌+◌, ◌-◌, ◌≤◌, ◌<◌}
use native.Mathlib.Omega.{arith}
use borrow.Author.Tests.{lt-leb, le-leb}
use lib.Dec.{leb, leb-suc-suc, leb-suc-zero}
use lib.ListN.{length, get_or, take, drop, length-drop}
use lib.Seq.{get_or-drop, length-take-le}
use Rattle.std.specs.List.{list_all}
use Rattle.runs.specs.Front.{is, front}
use Rattle.runs.proofs.Front.{is_eq, is_ne, is_true, is_false}
use Rattle.runs.proofs.Back.{same, back_le, back_all, back_stops, back_is}
use Rattle.padding.specs.Padding.{last, end_length, padding_length}
use Rattle.padding.proofs.States.{last_behind}
use Rattle.patterns.specs.Entries.{has_zeros}
use Rattle.patterns.specs.Laws.{Padding}

-- the first n octets all pass where that many in front do
pub all_front : (p : ℕ → Bool) (s : List ℕ) (n : ℕ) → n ≤ length s → list_all p (take n s) ≡ leb n (front p s)
unfolding front
all_front p s zero h = sym (le-leb 0 (front p s) (omega arith))
all_front p [] (suc n) h = absurd (omega arith)
all_front p (x ∷ s) (suc n) h = go (p x) (all_front p s n (omega arith))
  where
    go : (b : Bool) → list_all p (take n s) ≡ leb n (front p s) → (b && list_all p (take n s)) ≡ leb (suc n) (cond b (suc (front p s)) 0)
    go true e = e ∙ sym (leb-suc-suc n (front p s))
    go false e = sym (leb-suc-zero n)

-- the octets before the padding: fewer than 8, or as many zeros in front as there are
module _ (s : List ℕ) {n : ℕ} (is-n : n ≡ padding_length s) {before : List ℕ} (is-before : before ≡ take (length s - n) s) where
  size : length before ≡ length s - padding_length s
  size = rw (is-before, is-n) (length-take-le (length s - padding_length s) s (omega arith))

  pub few_before : length before < 8 → leb 8 (length before) ≡ has_zeros s
  unfolding has_zeros
  few_before h = rw (← size, lt-leb 8 (length before) h)

  pub zeros_before : {r : Bool} → 8 ≤ length before → r ≡ list_all (is 0) before → r ≡ has_zeros s
  unfolding has_zeros
  zeros_before h all =
      all
      ∙ ap (list_all (is 0)) (is-before ∙ ap (λ (m : ℕ). take (length s - m) s) is-n)
      ∙ all_front (is 0) s (length s - padding_length s) (omega arith)
      ∙ rw (le-leb 8 (length s - padding_length s) (omega (arith, size)))

module _ (s : List ℕ) where
  -- without the first octet, place j is place j + 1
  behind : (j : ℕ) → get_or (drop 1 s) j 0 ≡ get_or s (j + 1) 0
  behind j = get_or-drop 1 s j 0 ∙ same s (1 + j) (j + 1) (omega arith)

  end_le : end_length s ≤ length s - 1
  unfolding end_length
  end_le = omega (arith, back_le (is (get_or (reverse (drop 1 s)) 0 0)) (drop 1 s), length-drop 1 s)

  end_front : 2 ≤ length s → end_length s ≡ front (is (last s)) (reverse (drop 1 s))
  unfolding end_length
  end_front h = ap (λ (x : ℕ). front (is x) (reverse (drop 1 s))) (last_behind s h)

  -- each of them equals the last
  end_all : (j : ℕ) → j < length s → length s ≤ j + end_length s → get_or s j 0 ≡ last s
  end_all zero h l = absurd (omega (arith, end_le))
  end_all (suc j) h l =
      let e = end_front (omega arith) in
      same s (suc j) (j + 1) (omega arith)
      ∙ sym (behind j)
      ∙ is_true (last s) (get_or (drop 1 s) j 0) (back_all (is (last s)) (drop 1 s) j (omega (arith, length-drop 1 s)) (omega (arith, length-drop 1 s)))

  -- the one before them does not
  end_stops : (j : ℕ) → 0 < j → j + 1 + end_length s ≡ length s → get_or s j 0 ≡ last s → ⊥
  end_stops zero p e f = omega arith
  end_stops (suc j) p e f =
      let n = end_front (omega arith) in
      is_false (last s) (get_or (drop 1 s) j 0) (back_stops (is (last s)) (drop 1 s) j (omega (arith, length-drop 1 s)))
      (behind j ∙ same s (j + 1) (suc j) (omega arith) ∙ f)

  -- n octets that do, and one before them, if not at index 0, that does not, are they
  end_is : (n : ℕ) → n < length s → 2 ≤ length s → ((j : ℕ) → j < length s → length s ≤ j + n → get_or s j 0 ≡ last s)
      → ((j : ℕ) → 0 < j → j + 1 + n ≡ length s → get_or s j 0 ≡ last s → ⊥) → n ≡ end_length s
  end_is n h two all stop =
      let size = length-drop 1 s in
      sym (end_front two
      ∙ back_is (is (last s)) (drop 1 s) n (omega arith)
      (λ j l m. rw (behind j) (is_eq (last s) (get_or s (j + 1) 0) (all (j + 1) (omega arith) (omega arith))))
      (λ j e. rw (behind j) (is_ne (last s) (get_or s (j + 1) 0) (stop (j + 1) (omega arith) (omega arith)))))

  -- they are padding if they are at least 4
  padding_some : 4 ≤ end_length s → end_length s ≡ padding_length s
  unfolding padding_length
  padding_some h = rw (le-leb 4 (end_length s) h)

  padding_end : padding_length s ≤ end_length s
  unfolding padding_length
  padding_end = go (leb 4 (end_length s))
    where
      go : (b : Bool) → cond b (end_length s) 0 ≤ end_length s
      go true = omega arith
      go false = omega arith

  pub padding_le : padding_length s ≤ length s - 1
  padding_le = omega (arith, padding_end, end_le)

  pub padding_all : (j : ℕ) → j < length s → length s ≤ j + padding_length s → get_or s j 0 ≡ last s
  padding_all j h l = end_all j h (omega (arith, padding_end))

  -- so there is one, which is what a padding is
  pub padding_is : 4 ≤ padding_length s → Padding s (length s - padding_length s) (padding_length s) (last s)
  padding_is long =
      let le = padding_le in
      let e = padding_some (omega (arith, padding_end)) in
      record {
        some = long;
        inside = omega arith;
        ends = omega arith;
        all = λ k l. padding_all (length s - padding_length s + k) (omega arith) (omega arith);
        left = λ l. end_stops (length s - padding_length s - 1) (omega arith) (omega arith);
      }

  -- and no other is one
  pub padding_only : (i m v : ℕ) → Padding s i m v → (m ≡ padding_length s) × ((i ≡ length s - padding_length s) × (v ≡ last s))
  padding_only i m v h =
      let some = h.some in
      let inside = h.inside in
      let ends = h.ends in
      let value : last s ≡ v = same s (length s - 1) (i + (m - 1)) (omega arith) ∙ h.all (m - 1) (omega arith) in
      let n = end_is m (omega arith) (omega arith)
      (λ j l k. same s j (i + (j - i)) (omega arith) ∙ h.all (j - i) (omega arith) ∙ sym value)
      (λ j p e f. h.left (omega arith) (same s (i - 1) j (omega arith) ∙ f ∙ value)) in
      let e = padding_some (omega arith) in
      (omega arith, (omega arith, sym value))
