-- What a `read` says.
-- Assumes nothing.
use Rattle.std.specs.Prelude.{ℕ, zero, suc, ◌≤◌, ◌<◌, min, max, Option, Some, None, Result, Ok, Err}

module _ {E : Type 0} where
  -- what a `read` answered says: 0 that the input has ended, another number how many octets came
  abbrev pub answered : Result ℕ E → Result (Option ℕ) E
  answered (Ok zero) = Ok None
  answered (Ok (suc k)) = Ok (Some (suc k))
  answered (Err e) = Err e

  -- what came is an octet or more, and at most as many as were asked for
  abbrev pub Came : Result (Option ℕ) E → ℕ → Type 0
  Came (Ok (Some n)) most = (0 < n) × (n ≤ most)
  Came (Ok None) most = Unit {0}
  Came (Err e) most = Unit {0}

-- how many octets a `read` asks for: a piece, where 0 counts as 1, and no more than there is room for
abbrev pub most_asked : ℕ → ℕ → ℕ
most_asked piece room = min (max piece 1) room
