-- Hexadecimal digits, lower case.
-- Assumes nothing.
use Rattle.std.specs.Prelude.{ℕ, ◌+◌, ◌*◌, ◌%◌, ◌==◌, List, [], ◌∷◌}
use Rattle.std.specs.List.{position_or_len}

-- the digits, 0 to 9 and a to f
abbrev pub digits : List ℕ
digits =
    0x30 ∷ 0x31 ∷ 0x32 ∷ 0x33 ∷ 0x34 ∷ 0x35 ∷ 0x36 ∷ 0x37 ∷ 0x38 ∷ 0x39
    ∷ 0x61 ∷ 0x62 ∷ 0x63 ∷ 0x64 ∷ 0x65 ∷ 0x66 ∷ []

-- the value of a digit, its place among them; 0 for any other octet
abbrev pub digit_of : ℕ → ℕ
digit_of c = position_or_len (λ d. d == c) digits % 16

-- the octet that two digits spell
abbrev pub octet_of : ℕ → ℕ → ℕ
octet_of high low = digit_of high * 16 + digit_of low
