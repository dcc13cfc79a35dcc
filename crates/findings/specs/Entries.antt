-- Findings in fixed memory: some, and unused entries behind them.
-- Assumes nothing.
use Rattle.std.specs.Prelude.{◌≡◌, ℕ, ◌-◌, ◌≤◌, List, [], ◌∷◌, ◌++◌, map, length, replicate, Option, Some, None}
use Rattle.std.specs.Option.{some_prefix}

module _ {F : Type 0} where
  -- n entries: some findings, and unused ones behind them
  unfoldable pub filled : ℕ → List F → List (Option F)
  filled n findings = map Some findings ++ replicate (n - length findings) None

  -- n entries and a count: the findings are in front, and the count is theirs
  pub record Holds (n : ℕ) (entries : List (Option F)) (count : ℕ) : Type 0 where
    pub are : entries ≡ filled n (some_prefix entries)
    pub many : count ≡ length (some_prefix entries)
    pub few : count ≤ n

  -- the numbers of an entry by those of a finding: 0 where it is unused
  abbrev pub entry_numbers : (F → List ℕ) → Option F → List ℕ
  entry_numbers numbers_of None = 0 ∷ 0 ∷ 0 ∷ []
  entry_numbers numbers_of (Some finding) = numbers_of finding
