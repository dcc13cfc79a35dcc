-- The whole reading of a run: the finder's calls, from place 0, each next from the last report's end, until one says "none".
-- Assumes nothing.
use Rattle.std.specs.Prelude.{◌≡◌, List, [], ◌∷◌, ℕ, zero, suc, length, Some, None, Ok}
use Rattle.crc.specs.declared.CheckRule.{CheckRule}
use Rattle.run_search.specs.declared.Report.{Report}
use Rattle.run_search.specs.Search.{end_of}
use Rattle.run_search.specs.Reports.{and_on}
use Rattle.run_finder.specs.Find.{find, report_in}

-- the calls from a place on give these reports: "none" and no report, or a report and those of the calls from its end on
pub data CallsGive (rule : CheckRule) (run : List ℕ) : ℕ → List Report → Type 0 where
  end : {place : ℕ} → find rule run place ≡ Ok None → CallsGive rule run place []
  next : {place : ℕ} {r : Report} {rs : List Report} → find rule run place ≡ Ok (Some r) → CallsGive rule run (end_of r) rs
      → CallsGive rule run place (r ∷ rs)

-- a whole reading, from place 0, gives these reports and no others
pub record WholeReading (rule : CheckRule) (run : List ℕ) (rs : List Report) : Type 0 where
  pub read : CallsGive rule run 0 rs
  pub only : (others : List Report) → CallsGive rule run 0 others → others ≡ rs

-- the reports of at most n calls, the first from a place
unfoldable pub within_calls : CheckRule → List ℕ → ℕ → ℕ → List Report
within_calls rule run zero place = []
within_calls rule run (suc n) place = and_on (report_in (find rule run place)) (within_calls rule run n)

-- the reports of a whole reading: a call for each octet and one more are enough
unfoldable pub reading : CheckRule → List ℕ → List Report
reading rule run = within_calls rule run (suc (length run)) 0
