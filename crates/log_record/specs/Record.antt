-- The octets of a record of the log, with a time or without one.
-- Assumes nothing.
use Rattle.std.specs.Prelude.{ℕ, ◌+◌, Bool, cond, List, [], ◌∷◌, ◌++◌, eqb, length, get_or, Option, Some, None}
use Rattle.octets.specs.Number.{number4, high_first, high_first_4}
use Rattle.octets.specs.Range.{within}

-- what a record is written from: its kind (1 bus, 2 IP, 3 Ethernet), the second when it was made, if it has a time, and its octets
pub record Entry : Type 0 where
  pub kind : ℕ
  pub time : Option ℕ
  pub payload : List ℕ

-- how many octets a record may have
abbrev pub allowed_size : ℕ → Bool
allowed_size = within 1 1514

-- the octets of a time: the second's four, the highest first, or none
unfoldable pub time_octets : Option ℕ → List ℕ
time_octets (Some s) = high_first_4 s
time_octets None = []

-- the time that octets are: the second of four, none of no octets
unfoldable pub time_of : List ℕ → Option ℕ
time_of xs = cond (eqb (length xs) 4) (Some (number4 (get_or xs 0 0) (get_or xs 1 0) (get_or xs 2 0) (get_or xs 3 0))) None

-- the octet of a kind: 0B, 0C and 0D for 1, 2 and 3 if there is a time, else the kind itself
unfoldable pub kind_octet : ℕ → Option ℕ → ℕ
kind_octet kind (Some s) = kind + 10
kind_octet kind None = kind

-- the trailer: the kind's octet and the length
abbrev pub trailer : ℕ → ℕ → List ℕ
trailer octet n = octet ∷ high_first n

-- how many octets it has
abbrev pub trailer_size : ℕ
trailer_size = 3

-- a record in the log: its octets, its time, and its trailer, whose length counts its octets alone
unfoldable pub record_octets : ℕ → Option ℕ → List ℕ → List ℕ
record_octets kind time payload = payload ++ (time_octets time ++ trailer (kind_octet kind time) (length payload))
