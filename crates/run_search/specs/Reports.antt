-- All the reports of a run, each acceptable frame behind the one before.
-- Assumes nothing.
use Rattle.std.specs.Prelude.{ℕ, zero, suc, ◌-◌, cond, length, drop, Option, Some, None}
use mathlib.Core.List.{List, [], ◌∷◌, flat_map}
use Rattle.octets.specs.Size.{at_most_65535}
use Rattle.crc.specs.declared.CheckRule.{CheckRule}
use Rattle.run_search.specs.declared.Report.{Report}
use Rattle.run_search.specs.Acceptable.{acceptable, own_count, own_octets}
use Rattle.run_search.specs.Search.{report, report_numbers, end_of}

-- the reports of the octets s, which stand at a place of the run; the first k belong to a report before
unfoldable pub pass : CheckRule → ℕ → ℕ → List ℕ → List Report
pass rule k place [] = []
pass rule zero place (x ∷ s) =
    cond (acceptable rule (own_octets (x ∷ s)))
    (report place (own_count (x ∷ s)) ∷ pass rule (own_count (x ∷ s) - 1) (suc place) s)
    (pass rule 0 (suc place) s)
pass rule (suc k) place (x ∷ s) = pass rule k (suc place) s

-- those from a place of the run on
abbrev pub rest : CheckRule → List ℕ → ℕ → List Report
rest rule run place = pass rule 0 place (drop place run)

-- what an answer reports, and behind a report what is from its end on
abbrev pub and_on : Option Report → (ℕ → List Report) → List Report
and_on (Some r) on = r ∷ on (end_of r)
and_on None on = []

-- those of a run of at most 65,535 octets; of a longer one none
unfoldable pub reports : CheckRule → List ℕ → List Report
reports rule run = cond (at_most_65535 (length run)) (rest rule run 0) []

-- the two numbers of each report, in order
unfoldable pub list_numbers : List Report → List ℕ
list_numbers rs = flat_map report_numbers rs
