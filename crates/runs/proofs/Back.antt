-- Laws of the count of octets at the end that pass a test: those in front of the octets reversed.
-- Assumes nothing.
use mathlib.Core.Path.{◌≡◌, ◌∙◌}
use mathlib.Core.Bool.{Bool, true, false}
use mathlib.Core.List.{List, reverse}
use Prim.Native.Nat.{ℕ, ◌+◌, ◌-◌, ◌≤◌, ◌<◌}
use native.Mathlib.Omega.{arith}
use lib.ListN.{length, get_or, length-reverse}
use Rattle.std.proofs.lemmas.List.{get_or-reverse}
use Rattle.runs.specs.Front.{front}
use Rattle.runs.proofs.Front.{front_le, front_all, front_stops, front_most, front_is}

-- octets at one place
pub same : (s : List ℕ) (i j : ℕ) → i ≡ j → get_or s i 0 ≡ get_or s j 0
same s i j e = rw e

module _ (p : ℕ → Bool) (s : List ℕ) where
  reversed : (j : ℕ) → j < length s → get_or (reverse s) (length s - 1 - j) 0 ≡ get_or s j 0
  reversed j h = get_or-reverse s (length s - 1 - j) 0 (omega arith) ∙ same s (length s - 1 - (length s - 1 - j)) j (omega arith)

  -- there are no more than octets
  pub back_le : front p (reverse s) ≤ length s
  back_le = omega (arith, front_le p (reverse s), length-reverse s)

  -- every octet of them passes
  pub back_all : (j : ℕ) → j < length s → length s ≤ j + front p (reverse s) → p (get_or s j 0) ≡ true
  back_all j h l = rw (reversed j h) at (front_all p (reverse s) (length s - 1 - j) (omega arith))

  -- the octet before them does not
  pub back_stops : (j : ℕ) → j + 1 + front p (reverse s) ≡ length s → p (get_or s j 0) ≡ false
  back_stops j e =
      let n : front p (reverse s) ≡ length s - 1 - j = omega arith in
      rw (n, reversed j (omega arith)) at (front_stops p (reverse s) (omega (arith, length-reverse s)))

  -- where the last n pass, there are n at least
  module _ (n : ℕ) (h : n ≤ length s) (all : (j : ℕ) → j < length s → length s ≤ j + n → p (get_or s j 0) ≡ true) where
    passes : (k : ℕ) → k < n → p (get_or (reverse s) k 0) ≡ true
    passes k l = rw (get_or-reverse s k 0 (omega arith)) (all (length s - 1 - k) (omega arith) (omega arith))

    pub back_most : n ≤ front p (reverse s)
    back_most = front_most p (reverse s) n (omega (arith, length-reverse s)) passes

    -- and no more, where the octet before them does not
    pub back_is : ((j : ℕ) → j + 1 + n ≡ length s → p (get_or s j 0) ≡ false) → front p (reverse s) ≡ n
    back_is stop =
        let size = length-reverse s in
        front_is p (reverse s) n (omega arith) passes (λ l. rw (get_or-reverse s n 0 (omega arith)) (stop (length s - 1 - n) (omega arith)))
