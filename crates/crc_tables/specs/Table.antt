-- A check table, over the constant k: what eight steps make of each octet.
-- Assumes nothing.
use Rattle.std.specs.Prelude.{List, [], ◌∷◌, ℕ, zero, suc}
use Rattle.crc_tables.specs.Steps.{steps}

-- n entries from i on
unfoldable pub entries : ℕ → ℕ → ℕ → List ℕ
entries k i zero = []
entries k i (suc n) = steps k 8 i ∷ entries k (suc i) n

-- the table: an entry for each octet
unfoldable pub table_of : ℕ → List ℕ
table_of k = entries k 0 256
