-- The octets of a frame by their places, in any octets: one that is not there counts as 0.
-- Assumes nothing.
use Rattle.std.specs.Prelude.{ℕ, ◌+◌, Bool, ◌&&◌, List, [], ◌∷◌, eqb, get_or, take, drop}
use Rattle.octets.specs.Number.{number}
use Rattle.crc.specs.Rule.{header_check}
use Rattle.crc.specs.declared.CheckRule.{CheckRule}

-- the first two octets, as one number
abbrev pub preamble : List ℕ → ℕ
preamble s = number (get_or s 0 0) (get_or s 1 0)

-- they are 55 FF
unfoldable pub begins_preamble : List ℕ → Bool
begins_preamble s = eqb (get_or s 0 0) 0x55 && eqb (get_or s 1 0) 0xFF

-- the type
abbrev pub frame_type : List ℕ → ℕ
frame_type s = get_or s 2 0

-- the destination
abbrev pub destination_of : List ℕ → ℕ
destination_of s = get_or s 3 0

-- the source
abbrev pub source_of : List ℕ → ℕ
source_of s = get_or s 4 0

-- the data length that a header says
unfoldable pub data_length : List ℕ → ℕ
data_length s = number (get_or s 5 0) (get_or s 6 0)

-- the header check that was sent
abbrev pub header_check_sent : List ℕ → ℕ
header_check_sent s = get_or s 7 0

-- the five octets behind the preamble, which the header check covers
abbrev pub fields_part : List ℕ → List ℕ
fields_part s = take 5 (drop 2 s)

-- the same octets, each by its place
abbrev pub field_octets : List ℕ → List ℕ
field_octets s = frame_type s ∷ destination_of s ∷ source_of s ∷ get_or s 5 0 ∷ get_or s 6 0 ∷ []

-- their header check
abbrev pub header_check_of : CheckRule → List ℕ → ℕ
header_check_of rule s = header_check rule (fields_part s)

-- as many octets behind the header as the length says
unfoldable pub data_part : List ℕ → List ℕ
data_part s = take (data_length s) (drop 8 s)

-- the data check that was sent behind them, low octet first
unfoldable pub data_check_sent : List ℕ → ℕ
data_check_sent s = number (get_or s (data_length s + 9) 0) (get_or s (data_length s + 8) 0)
