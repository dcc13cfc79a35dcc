-- A table's lines put one behind another, whatever the number of digits.
-- Assumes nothing.
use mathlib.Core.Path.{◌≡◌}
use mathlib.Core.List.{List}
use Prim.Native.Nat.{ℕ, ◌+◌, ◌≤◌, ◌<◌}
use lib.ListN.{length, get_or}
use Rattle.octets.specs.Put.{Put, put_place, put_output}
use Rattle.octets.proofs.PutEach as each
use Rattle.text.specs.Text.{letters, hexadecimal}
use Rattle.check_tables.specs.Text.{entry_line, table_lines}

module _ (digits : ℕ) (table before : List ℕ) (at : ℕ) where
  -- a loop that puts the lines: those put so far, and those from an entry on, are all
  abbrev pub Going : ℕ → List ℕ → ℕ → Type 0
  Going = each.Going (hexadecimal digits) (λ _. letters "\n") table 0 before at

  module _ (room : at + length (table_lines digits table) ≤ length before) where
    pub going_start : Going 0 before at
    unfolding table_lines entry_line
    going_start = each.going_start (hexadecimal digits) (λ _. letters "\n") table 0 before at room

    -- an entry's digits and a newline are next
    pub going_next : (i : ℕ) {out : List ℕ} {behind : ℕ} → i < length table → Going i out behind → {m n : ℕ} {b c : List ℕ}
        → (m ≡ put_place (hexadecimal digits (get_or table i 0)) out behind) × (b ≡ put_output (hexadecimal digits (get_or table i 0)) out behind)
        → (n ≡ put_place (letters "\n") b m) × (c ≡ put_output (letters "\n") b m) → Going (i + 1) c n
    unfolding table_lines entry_line
    going_next = each.going_next (hexadecimal digits) (λ _. letters "\n") table 0 before at room

  pub going_end : (i : ℕ) {out : List ℕ} {behind : ℕ} → length table ≤ i → Going i out behind → Put (table_lines digits table) before at out behind
  unfolding table_lines entry_line
  going_end = each.going_end (hexadecimal digits) (λ _. letters "\n") table 0 before at
