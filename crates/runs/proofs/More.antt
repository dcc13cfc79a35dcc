-- Laws of the octets at the end that equal the last one, with an octet more behind them.
-- Assumes nothing.
use mathlib.Core.Path.{◌≡◌, refl}
use mathlib.Core.List.{List, [], ◌∷◌, ◌++◌, reverse, reverse-append}
use Prim.Native.Nat.{ℕ, suc, ◌<◌}
use native.Mathlib.Omega.{arith, by_contra}
use lib.ListN.{length, get_or, length-reverse}
use Rattle.runs.specs.Front.{is, front, equal_at_end}
use Rattle.runs.proofs.Front.{front_le, front_all, front_yes, is_eq, is_true}

module _ (s : List ℕ) (x : ℕ) where
  more_reversed : reverse (s ++ (x ∷ [])) ≡ x ∷ reverse s
  more_reversed = reverse-append s (x ∷ [])

  -- it is the last one
  pub more_last : get_or (reverse (s ++ (x ∷ []))) 0 0 ≡ x
  more_last = rw more_reversed

  -- it is one of them, with those before it that equal it
  more_equal : equal_at_end (s ++ (x ∷ [])) ≡ suc (front (is x) (reverse s))
  more_equal = rw more_reversed (front_yes (is x) x (reverse s) (is_eq x x refl))

  -- they are one more, if it equals the last one before it
  pub more_again : get_or (reverse s) 0 0 ≡ x → equal_at_end (s ++ (x ∷ [])) ≡ suc (equal_at_end s)
  more_again e = rw e more_equal

  -- else it is the only one
  pub more_anew : (0 < length s → get_or (reverse s) 0 0 ≡ x → ⊥) → equal_at_end (s ++ (x ∷ [])) ≡ 1
  more_anew other =
      let none = by_contra (front (is x) (reverse s)) 0
      (λ l. other (omega (arith, front_le (is x) (reverse s), length-reverse s)) (is_true x (get_or (reverse s) 0 0) (front_all (is x) (reverse s) 0 l))) in
      omega (arith, more_equal)
