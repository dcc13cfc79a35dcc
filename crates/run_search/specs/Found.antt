-- What the finder's answer means, place by place, and how many places the search tried: a further promise of `find_frame`.
-- Assumes nothing.
use Rattle.std.specs.Prelude.{◌≡◌, true, false, List, ℕ, suc, ◌-◌, ◌≤◌, ◌<◌, length, take, drop, Option, Some, None}
use Rattle.crc.specs.declared.CheckRule.{CheckRule}
use Rattle.run_search.specs.declared.Report.{Report}
use Rattle.run_search.specs.Acceptable.{acceptable}
use Rattle.run_search.specs.Search.{end_of, search_from}

-- no acceptable frame starts at a place of the run, of however many octets
abbrev pub NoneAt : CheckRule → List ℕ → ℕ → Type 0
NoneAt rule run place = (n : ℕ) → acceptable rule (take n (drop place run)) ≡ false

-- the octets that a report names
abbrev pub octets_of : List ℕ → Report → List ℕ
octets_of run r = take r.count (drop r.place run)

-- a report from a place on: octets of the run that are acceptable, and no acceptable frame starts between the place and it
pub record Reported (rule : CheckRule) (run : List ℕ) (place : ℕ) (r : Report) : Type 0 where
  pub behind : place ≤ r.place
  pub inside : end_of r ≤ length run
  pub passes : acceptable rule (octets_of run r) ≡ true
  pub first : (i : ℕ) → place ≤ i → i < r.place → NoneAt rule run i
  pub tried : (search_from rule run place).tried ≡ suc (r.place - place)

-- "none" from a place on: no acceptable frame starts there or later
pub record NoneFrom (rule : CheckRule) (run : List ℕ) (place : ℕ) : Type 0 where
  pub none : (i : ℕ) → place ≤ i → NoneAt rule run i
  pub tried : (search_from rule run place).tried ≡ length run - place

-- what each answer that is no refusal means
pub record Found (rule : CheckRule) (run : List ℕ) (place : ℕ) (answer : Option Report) : Type 0 where
  pub reported : (r : Report) → answer ≡ Some r → Reported rule run place r
  pub nothing : answer ≡ None → NoneFrom rule run place
