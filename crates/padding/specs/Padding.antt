-- The octets at the end that equal the last one, and the padding.
-- Assumes nothing.
use Rattle.std.specs.Prelude.{ℕ, ◌-◌, cond, List, leb, length, get_or, drop}
use Rattle.runs.specs.Front.{equal_at_end}

-- the last octet
abbrev pub last : List ℕ → ℕ
last s = get_or s (length s - 1) 0

-- how many octets at the end, one behind another and without index 0, equal the last one
unfoldable pub end_length : List ℕ → ℕ
end_length s = equal_at_end (drop 1 s)

-- how many of them are padding: all, if they are at least 4
unfoldable pub padding_length : List ℕ → ℕ
padding_length s = cond (leb 4 (end_length s)) (end_length s) 0
