-- The octets of a text: letters, decimal and hexadecimal digits, fields.
-- Assumes nothing.
use Rattle.std.specs.Prelude.{ℕ, zero, suc, ◌/◌, ◌%◌, cond, List, [], ◌∷◌, ◌++◌, ltb, get_or}
use Prim.Native.Char.{code}
use Prim.Native.String.{String, [] as noLetter, ◌∷◌ as letterThen}
use Rattle.io.specs.Digits.{last_digits}

-- the codes of a text's letters
abbrev pub letters : String → List ℕ
letters noLetter = []
letters (letterThen c s) = code c ∷ letters s

-- texts, one behind another
abbrev pub texts : List (List ℕ) → List ℕ
texts [] = []
texts (x ∷ xs) = x ++ texts xs

-- how many decimal digits a number has; the first number, at least as large, bounds the divisions by ten
unfoldable pub places : ℕ → ℕ → ℕ
places zero n = 1
places (suc k) n = cond (ltb n 10) 1 (suc (places k (n / 10)))

-- a number in decimal digits
unfoldable pub decimal : ℕ → List ℕ
decimal n = last_digits 10 (places n n) n

-- a space and a number
unfoldable pub field : ℕ → List ℕ
field n = letters " " ++ decimal n

-- the last k hexadecimal digits of a number, in capitals
abbrev pub hexadecimal : ℕ → ℕ → List ℕ
hexadecimal zero n = []
hexadecimal (suc k) n = hexadecimal k (n / 16) ++ (get_or (letters "0123456789ABCDEF") (n % 16) 0 ∷ [])
