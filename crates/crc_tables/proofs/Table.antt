-- The entry of an octet in a table, whatever the constant k.
-- Assumes nothing.
use mathlib.Core.Path.{◌≡◌, sym, ap, ◌∙◌}
use mathlib.Core.List.{List}
use Prim.Native.Nat.{ℕ, zero, suc, ◌+◌, ◌<◌}
use native.Mathlib.Nat.{add-zero, zero-add, add-suc, suc-add, le_of_suc-le-suc, not-suc-le-zero}
use lib.ListN.{get_or}
use Rattle.crc_tables.specs.Steps.{steps}
use Rattle.crc_tables.specs.Table.{entries, table_of}

entries_at : (k i n m : ℕ) → m < n → get_or (entries k i n) m 0 ≡ steps k 8 (i + m)
unfolding entries
entries_at k i zero m h = absurd (not-suc-le-zero h)
entries_at k i (suc n) zero h = ap (λ (a : ℕ). steps k 8 a) (sym (add-zero i))
entries_at k i (suc n) (suc m) h =
    entries_at k (suc i) n m (le_of_suc-le-suc h) ∙ ap (λ (a : ℕ). steps k 8 a) (suc-add i m ∙ sym (add-suc i m))

-- an octet after eight steps stands at its own place
pub octet_at : (k b : ℕ) {t : List ℕ} → t ≡ table_of k → b < 256 → get_or t b 0 ≡ steps k 8 b
unfolding table_of
octet_at k b {t} e h = ap (λ (l : List ℕ). get_or l b 0) e ∙ entries_at k 0 256 b h ∙ ap (λ (a : ℕ). steps k 8 a) (zero-add b)
