-- What a private function of the finder answers.
-- Assumes nothing.
use Rattle.std.specs.Prelude.{◌≡◌, List, ℕ, ◌≤◌}
use Rattle.crc.specs.declared.CheckRule.{CheckRule}
use Rattle.run_search.specs.Search.{search_from}

-- a place from which the search, under either rule, finds what it finds from an earlier one
pub record NoneBefore (run : List ℕ) (from place : ℕ) : Type 0 where
  pub later : from ≤ place
  pub same : (rule : CheckRule) → (search_from rule run from).found ≡ (search_from rule run place).found
