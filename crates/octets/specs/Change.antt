-- Octets of which exactly one is changed.
-- Assumes nothing.
use Rattle.std.specs.Prelude.{◌≡◌, List, ℕ, ◌<◌, length, get_or}

-- equally long, another octet at this place, and at every other place the same
pub record DifferAt (place : ℕ) (before after : List ℕ) : Type 0 where
  pub same_length : length after ≡ length before
  pub inside : place < length before
  pub changed : get_or after place 0 ≡ get_or before place 0 → ⊥
  pub others : (other : ℕ) → (other ≡ place → ⊥) → get_or after other 0 ≡ get_or before other 0

-- they differ in exactly one octet
abbrev pub DifferInOne : List ℕ → List ℕ → Type 0
DifferInOne before after = (place : ℕ) × DifferAt place before after
