-- The search for the first acceptable frame from a place on.
-- Assumes nothing.
use Rattle.std.specs.Prelude.{ℕ, suc, ◌+◌, cond, List, [], ◌∷◌, leb, length, drop, Option, Some, None}
use Rattle.crc.specs.declared.CheckRule.{CheckRule}
use Rattle.run_search.specs.declared.Report.{Report}
use Rattle.run_search.specs.Acceptable.{acceptable, own_count, own_octets}

-- a report of n octets at a place
abbrev pub report : ℕ → ℕ → Report
report place n = record { place = place; count = n }

-- its two numbers: place, octet count
abbrev pub report_numbers : Report → List ℕ
report_numbers r = r.place ∷ r.count ∷ []

-- the place behind a report's octets
abbrev pub end_of : Report → ℕ
end_of r = r.place + r.count

-- what a search gives: its answer, and the count of the places that it tried
pub record Searched : Type 0 where
  pub found : Option Report
  pub tried : ℕ

-- the same with a place more tried
abbrev pub one_more : Searched → Searched
one_more later = record { found = later.found; tried = suc later.tried }

-- the first acceptable frame of the octets s, which stand at a place of the run: place by place, each tried once
unfoldable pub search : CheckRule → ℕ → List ℕ → Searched
search rule place [] = record { found = None; tried = 0 }
search rule place (x ∷ s) =
    cond (acceptable rule (own_octets (x ∷ s)))
    (record { found = Some (report place (own_count (x ∷ s))); tried = 1 })
    (one_more (search rule (suc place) s))

-- the search of a run from a place on
abbrev pub search_from : CheckRule → List ℕ → ℕ → Searched
search_from rule run place = search rule place (drop place run)

-- the octet count that the header at a place says; 8, a header's, where fewer octets are left
unfoldable pub size_at : List ℕ → ℕ → ℕ
size_at run place = cond (leb 8 (length (drop place run))) (own_count (drop place run)) 8

-- the place of a report, or else another
abbrev pub place_or : ℕ → Option Report → ℕ
place_or other (Some r) = r.place
place_or other None = other

-- the place of the first acceptable frame from a place on, or the run's length
unfoldable pub next_frame : CheckRule → List ℕ → ℕ → ℕ
next_frame rule run place = place_or (length run) (search_from rule run place).found
