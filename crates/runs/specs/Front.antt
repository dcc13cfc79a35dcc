-- How many octets in front pass a test, and how many octets pass it in all.
-- Assumes nothing.
use Rattle.std.specs.Prelude.{ℕ, suc, ◌+◌, Bool, cond, List, [], ◌∷◌, reverse, eqb, get_or}

-- the octet is x
unfoldable pub is : ℕ → ℕ → Bool
is x y = eqb y x

-- how many octets in front pass the test, one behind another
unfoldable pub front : (ℕ → Bool) → List ℕ → ℕ
front p [] = 0
front p (x ∷ s) = cond (p x) (suc (front p s)) 0

-- how many octets in front equal the first
abbrev pub equal_in_front : List ℕ → ℕ
equal_in_front s = front (is (get_or s 0 0)) s

-- how many octets at the end equal the last
abbrev pub equal_at_end : List ℕ → ℕ
equal_at_end s = equal_in_front (reverse s)

-- how many octets pass the test
unfoldable pub count : (ℕ → Bool) → List ℕ → ℕ
count p [] = 0
count p (x ∷ s) = cond (p x) 1 0 + count p s
