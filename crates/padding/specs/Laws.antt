-- What the steps promise of a state that came about by octets.
-- Assumes nothing.
use Rattle.std.specs.Prelude.{ℕ, ◌+◌, ◌^◌, ◌≤◌, ◌<◌, ◌≡◌, true, List, [], ◌∷◌, ◌++◌, length}
use Rattle.padding.specs.Padding.{padding_length}
use Rattle.padding.specs.State.{state, after}
use Rattle.padding.specs.declared.PaddingState.{PaddingState}

-- as many octets as memory can hold
abbrev pub InMemory : List ℕ → Type 0
InMemory s = length s < 2 ^ 64

-- if a is the state after some octets, then r is the state after these and x
abbrev pub Follows : PaddingState → ℕ → PaddingState → Type 0
Follows a x r = (s : List ℕ) → InMemory s → a ≡ after s → r ≡ after (s ++ (x ∷ []))

-- if a is the state after some octets, then so many of them are padding
abbrev pub Counts : PaddingState → ℕ → Type 0
Counts a n = (s : List ℕ) → a ≡ after s → n ≡ padding_length s

-- the run is 0 after one octet and 1 after two; and from `Follows` alone: it grows as long as one more is a number
pub record StepExample : Type 0 where
  pub one : (x : ℕ) → after (x ∷ []) ≡ state true x 0
  pub two : (x y : ℕ) → after (x ∷ y ∷ []) ≡ state true y 1
  pub most : (x n : ℕ) (r : PaddingState) → n + 1 < 2 ^ 64 → Follows (state true x n) x r → r ≡ state true x (n + 1)

-- from `Counts` alone: a run of 4 or more is padding, however long, and one of fewer is none
pub record LengthExample : Type 0 where
  pub some : (x n m : ℕ) → 4 ≤ n → n < 2 ^ 64 → Counts (state true x n) m → m ≡ n
  pub few : (x n m : ℕ) → n < 4 → Counts (state true x n) m → m ≡ 0
