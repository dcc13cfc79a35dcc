-- The octet count of an MS/TP frame.
-- Assumes nothing.
use Rattle.std.specs.Prelude.{ℕ, ◌+◌, cond, eqb}

-- the octet count that a data length says: 8, or 10 plus the length if that is above 0
unfoldable pub frame_size : ℕ → ℕ
frame_size n = cond (eqb n 0) 8 (n + 10)
