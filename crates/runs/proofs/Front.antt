-- Laws of the count of octets in front that pass a test.
-- Assumes nothing.
use mathlib.Core.Path.{◌≡◌, refl}
use Prim.Native.Nat.{ℕ, suc, ◌+◌, ◌≤◌, ◌<◌}
use native.Mathlib.Omega.{arith, by_contra}
use mathlib.Core.Bool.{Bool, true, false}
use mathlib.Core.List.{List, [], ◌∷◌}
use lib.ListN.{length, get_or, drop}
use borrow.Author.Tests.{eq-eqb, ne_eqb, eqb-true, eqb-false}
use Rattle.std.specs.List.{prefix_len}
use Rattle.std.proofs.lemmas.Bool.Decides.{nat_tests}
use Rattle.std.proofs.lemmas.List.Sums.{prefix_len-le-length, prefix_len_passes, prefix_len_stops, prefix_len_is, prefix_len-drop_yes, prefix_len-drop_no, prefix_len-drop_all}
use Rattle.octets.specs.Range.{within}
use Rattle.runs.specs.Front.{is, front}

-- the test for one value, and the fact
pub is_eq : (x y : ℕ) → y ≡ x → is x y ≡ true
unfolding is
is_eq x y e = eq-eqb y x e

pub is_ne : (x y : ℕ) → (y ≡ x → ⊥) → is x y ≡ false
unfolding is
is_ne x y e = ne_eqb y x e

pub is_true : (x y : ℕ) → is x y ≡ true → y ≡ x
unfolding is
is_true x y e = eqb-true y x e

pub is_false : (x y : ℕ) → is x y ≡ false → y ≡ x → ⊥
unfolding is
is_false x y e = eqb-false y x e

-- x to x is x
pub within_same : (x y : ℕ) → within x x y ≡ is x y
unfolding within is
within_same x y = grind (arith, nat_tests)

-- it is what the library counts
pub prefix_len-front : (p : ℕ → Bool) (s : List ℕ) → prefix_len p s ≡ front p s
unfolding front
prefix_len-front p [] = refl
prefix_len-front p (x ∷ s) =
    let more : 1 + prefix_len p s ≡ suc (front p s) = omega (arith, prefix_len-front p s) in
    rw more

-- tests that agree count alike
pub front_alike : (p q : ℕ → Bool) → ((y : ℕ) → p y ≡ q y) → (s : List ℕ) → front p s ≡ front q s
unfolding front
front_alike p q e [] = refl
front_alike p q e (x ∷ s) = rw (e x, front_alike p q e s)

module _ (p : ℕ → Bool) where
  -- the first octet passes
  pub front_yes : (x : ℕ) (s : List ℕ) → p x ≡ true → front p (x ∷ s) ≡ suc (front p s)
  unfolding front
  front_yes x s e = rw e

  module _ (s : List ℕ) where
    counted : prefix_len p s ≡ front p s
    counted = prefix_len-front p s

    -- there are no more than octets
    pub front_le : front p s ≤ length s
    front_le = rw (← counted) (prefix_len-le-length p s)

    -- every octet of them passes
    pub front_all : (k : ℕ) → k < front p s → p (get_or s k 0) ≡ true
    front_all k h = prefix_len_passes p s k 0 (rw counted h)

    -- the octet behind them does not
    pub front_stops : front p s < length s → p (get_or s (front p s) 0) ≡ false
    front_stops h = rw (← counted) (prefix_len_stops p s 0 (rw counted h))

    -- n pass, and the one behind them does not
    pub front_is : (n : ℕ) → n ≤ length s → ((k : ℕ) → k < n → p (get_or s k 0) ≡ true) → (n < length s → p (get_or s n 0) ≡ false) → front p s ≡ n
    front_is n h all stop = rw (← counted) (prefix_len_is p s n 0 h all stop)

    -- where the first n pass, there are n at least
    pub front_most : (n : ℕ) → n ≤ length s → ((k : ℕ) → k < n → p (get_or s k 0) ≡ true) → n ≤ front p s
    front_most n h all = by_contra _ _ (λ l. let e = front_stops (omega arith) in let f = all (front p s) (omega arith) in let z : ◌≡◌ {A = ℕ} 0 1 = cc in omega arith)

    -- from place j on: one that passes, one that does not, the end
    module _ (j : ℕ) where
      rest : prefix_len p (drop j s) ≡ front p (drop j s)
      rest = prefix_len-front p (drop j s)

      pub front_turn : j < length s → p (get_or s j 0) ≡ true → front p (drop j s) ≡ suc (front p (drop (j + 1) s))
      front_turn h e = omega (arith, prefix_len-drop_yes p s j 0 h e, rest, prefix_len-front p (drop (j + 1) s))

      pub front_stop : j < length s → p (get_or s j 0) ≡ false → front p (drop j s) ≡ 0
      front_stop h e = omega (arith, prefix_len-drop_no p s j 0 h e, rest)

      pub front_end : length s ≤ j → front p (drop j s) ≡ 0
      front_end h = omega (arith, prefix_len-drop_all p s j h, rest)
