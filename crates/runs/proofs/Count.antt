-- Laws of the count of octets that pass a test.
-- Assumes nothing.
use mathlib.Core.Path.{◌≡◌, refl}
use Prim.Native.Nat.{ℕ, suc, ◌+◌, ◌≤◌, ◌<◌}
use native.Mathlib.Omega.{arith}
use native.Mathlib.Numerals.{add-one}
use mathlib.Core.Bool.{Bool, true, false, cond}
use mathlib.Core.List.{List, [], ◌∷◌, ◌++◌}
use lib.ListN.{length, get_or, drop, drop_of_length-le}
use lib.Seq.{drop-cons}
use Rattle.runs.specs.Front.{count}

pub one_at_most : (b : Bool) → cond b 1 0 ≤ 1
one_at_most true = omega arith
one_at_most false = omega arith

module _ (p : ℕ → Bool) where
  -- there are no more than octets
  pub count_le : (s : List ℕ) → count p s ≤ length s
  unfolding count
  count_le [] = omega arith
  count_le (x ∷ s) = omega (arith, count_le s, one_at_most (p x))

  -- where all pass, there are as many as octets
  pub count_all : (s : List ℕ) → ((i : ℕ) → i < length s → p (get_or s i 0) ≡ true) → count p s ≡ length s
  unfolding count
  count_all [] all = refl
  count_all (x ∷ s) all =
      rw (all 0 (omega arith)) (omega (arith, count_all s (λ i h. all (suc i) (omega arith))))

  -- an octet between others
  pub count_between : (a b : List ℕ) (x : ℕ) → count p (a ++ x ∷ b) ≡ cond (p x) 1 0 + count p (a ++ b)
  unfolding count
  count_between [] b x = refl
  count_between (y ∷ a) b x = omega (arith, count_between a b x)

  -- from place i on: one more octet, the end
  module _ (s : List ℕ) (i : ℕ) where
    pub count_turn : i < length s → count p (drop i s) ≡ cond (p (get_or s i 0)) 1 0 + count p (drop (i + 1) s)
    unfolding count
    count_turn h = rw (add-one i, drop-cons s i 0)

    pub count_end : length s ≤ i → count p (drop i s) ≡ 0
    unfolding count
    count_end h = rw (drop_of_length-le s {i = i} h)

-- tests that agree on every octet count alike
pub count_alike : (p q : ℕ → Bool) (s : List ℕ) → ((i : ℕ) → i < length s → p (get_or s i 0) ≡ q (get_or s i 0)) → count p s ≡ count q s
unfolding count
count_alike p q [] same = refl
count_alike p q (x ∷ s) same = rw (same 0 (omega arith), count_alike p q s (λ i h. same (suc i) (omega arith)))

-- where r is p or q, never both, the counts of p and q make that of r
pub count_join : (p q r : ℕ → Bool) → ((y : ℕ) → cond (p y) 1 0 + cond (q y) 1 0 ≡ cond (r y) 1 0)
    → (s : List ℕ) → count p s + count q s ≡ count r s
unfolding count
count_join p q r join [] = refl
count_join p q r join (x ∷ s) = omega (arith, join x, count_join p q r join s)
