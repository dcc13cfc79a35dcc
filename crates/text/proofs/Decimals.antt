-- The digits that a number takes.
-- Assumes nothing.
use mathlib.Core.Path.{◌≡◌, refl, ap, ◌∙◌}
use mathlib.Core.Bool.{Bool, true, false, cond}
use mathlib.Core.List.{List, [], ◌∷◌, ◌++◌}
use Prim.Native.Nat.{ℕ, zero, suc, ◌+◌, ◌-◌, ◌/◌, ◌%◌, ◌^◌, ◌≤◌, ◌<◌}
use native.Mathlib.Nat.{one-le-pow}
use native.Mathlib.Omega.{arith}
use borrow.Author.Tests.{lt-ltb, le-ltb}
use lib.Dec.{ltb}
use lib.Seq.{take_at}
use lib.ListN.{length, take, length-append}
use Rattle.io.specs.Digits.{last_digits, hex_digit_ascii, IsDigitCount}
use Rattle.text.specs.Text.{letters, places, decimal, field}

-- k digits are k octets
length_digits : (k n : ℕ) → length (last_digits 10 k n) ≡ k
length_digits zero n = refl
length_digits (suc k) n = length-append (last_digits 10 k (n / 10)) (hex_digit_ascii (n % 10) ∷ []) ∙ omega (arith, length_digits k (n / 10))

-- a number below a power of ten takes at most so many digits
places_most : (k j n : ℕ) → n < 10 ^ suc j → places k n ≤ suc j
unfolding places
places_most zero j n less = omega arith
places_most (suc k) zero n less = rw (lt-ltb n 10 less) (omega arith)
places_most (suc k) (suc j) n less = by (places_most k j (n / 10) (omega arith)) (ltb n 10)
  where
    by : places k (n / 10) ≤ suc j → (b : Bool) → cond b 1 (suc (places k (n / 10))) ≤ suc (suc j)
    by on true = omega arith
    by on false = omega arith

-- more than one digit: the number is ten or more, and without the last digit it takes one less
module _ (n p : ℕ) (few : IsDigitCount 10 1 n (suc (suc p))) where
  least : 10 ^ suc p ≤ n
  least = let one : suc (suc p) - 1 ≡ suc p = omega arith in rw one at (few.2 (omega arith))

  ten : 10 ≤ n
  ten = omega (arith, least, one-le-pow p 10 (omega arith))

  fewer : IsDigitCount 10 1 (n / 10) (suc p)
  fewer =
      let one : suc p - 1 ≡ p = omega arith in
      (omega arith, omega (arith, few.1), λ more. rw one (omega (arith, least)))

-- the fewest digits that hold a number are its places
fewest_places : (k n p : ℕ) → n ≤ k → IsDigitCount 10 1 n p → p ≡ places k n
unfolding places
fewest_places k n zero enough few = absurd (omega (arith, few.0))
fewest_places zero n (suc zero) enough few = refl
fewest_places zero n (suc (suc p)) enough few = absurd (omega (arith, ten n p few))
fewest_places (suc k) n (suc zero) enough few = rw (lt-ltb n 10 few.1)
fewest_places (suc k) n (suc (suc p)) enough few =
    rw (le-ltb n 10 (ten n p few)) (ap suc (fewest_places k (n / 10) (suc p) (omega arith) (fewer n p few)))

pub fewest_decimal : (n p : ℕ) → IsDigitCount 10 1 n p → last_digits 10 p n ≡ decimal n
unfolding decimal
fewest_decimal n p few = ap (λ (k : ℕ). last_digits 10 k n) (fewest_places n n p (omega arith) few)

-- so a field has at most one octet more
pub length_field : (j n : ℕ) → n < 10 ^ suc j → length (field n) ≤ suc (suc j)
unfolding decimal field
length_field j n less = omega (arith, length_digits (places n n) n, places_most n j n less)

-- digits behind a space
pub space_and : (digits rest : List ℕ) (k : ℕ) → length digits ≡ k → take (1 + k) (letters " " ++ (digits ++ rest)) ≡ letters " " ++ digits
space_and digits rest k e = take_at (letters " " ++ digits) rest (1 + k) (omega (arith, e))
