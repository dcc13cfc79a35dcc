-- The reports of a run, octet by octet: what the searches give, one after another.
-- Assumes nothing.
use mathlib.Core.Path.{◌≡◌, refl, ap, ◌∙◌}
use mathlib.Core.Bool.{Bool, true, false, cond}
use mathlib.Core.List.{List, [], ◌∷◌}
use Prim.Native.Nat.{ℕ, zero, suc, ◌+◌, ◌*◌, ◌-◌, ◌≤◌, ◌<◌}
use native.Mathlib.Nat.{add-zero, add-suc, suc-add}
use native.Mathlib.Omega.{arith}
use lib.ListN.{length, drop, length-take}
use lib.Seq.{drop-drop}
use Rattle.octets.proofs.Parts.{Octets, octets_take, octets_drop}
use Rattle.crc.specs.declared.CheckRule.{CheckRule}
use Rattle.mstp_frame.proofs.Sizes.{size_least}
use Rattle.mstp_frame.specs.Fields.{data_length}
use Rattle.run_search.specs.declared.Report.{Report}
use Rattle.std.specs.Prelude.{Some}
use Rattle.run_search.specs.Acceptable.{acceptable, own_count, own_octets}
use Rattle.run_search.specs.Found.{octets_of}
use Rattle.run_search.specs.Reports.{pass, rest, and_on}
use Rattle.run_search.specs.Search.{report, end_of, one_more, search, search_from}
use Rattle.run_search.proofs.Acceptables.{facts, own_inside, own_size}
use Rattle.run_search.proofs.Plain.{search_plain}
use Rattle.run_search.proofs.Searches.{drop_tail}

pass_behind : (rule : CheckRule) (k place : ℕ) (s : List ℕ) → pass rule k place s ≡ pass rule 0 (place + k) (drop k s)
unfolding pass
pass_behind rule zero place s = rw add-zero
pass_behind rule (suc k) place [] = refl
pass_behind rule (suc k) place (x ∷ s) = rw (add-suc, ← suc-add) (pass_behind rule k (suc place) s)

module _ (rule : CheckRule) (run : List ℕ) where
  pass_search : (s : List ℕ) (place : ℕ) → drop place run ≡ s → pass rule 0 place s ≡ and_on (search rule place s).found (rest rule run)
  unfolding pass search
  pass_search [] place e = refl
  pass_search (x ∷ s) place e =
      by (pass_search s (suc place) (drop_tail run place x s e)) (acceptable rule (own_octets (x ∷ s))) (own_count (x ∷ s)) (omega (arith, size_least (data_length (x ∷ s))))
    where
      by : pass rule 0 (suc place) s ≡ and_on (search rule (suc place) s).found (rest rule run) → (b : Bool) (n : ℕ) → 0 < n
          → cond b (report place n ∷ pass rule (n - 1) (suc place) s) (pass rule 0 (suc place) s)
          ≡ and_on (cond b (record { found = Some (report place n); tried = 1 }) (one_more (search rule (suc place) s))).found (rest rule run)
      by on true n some =
          let at : suc place + (n - 1) ≡ place + n = omega arith in
          ap (λ (l : List Report). report place n ∷ l)
          (pass_behind rule (n - 1) (suc place) s ∙ rw (← (drop_tail run place x s e), drop-drop (n - 1) (suc place) run, at))
      by on false n some = on

  -- from a place on, the reports are the search's and those from its end on
  pub rest_search : (place : ℕ) → rest rule run place ≡ and_on (search_from rule run place).found (rest rule run)
  rest_search place = pass_search (drop place run) place refl

  -- a report goes on: it starts at the place or later, has at least 8 octets, and ends within the run
  pub search_onward : Octets run → (place : ℕ) (r : Report) → (search_from rule run place).found ≡ Some r
      → (place ≤ r.place) × (8 ≤ r.count) × (end_of r ≤ length run)
  search_onward octets place r e =
      let f = (search_plain rule run octets place).reported r e in
      let least = (facts rule (octets_of run r) (octets_take r.count (drop r.place run) (octets_drop r.place run octets)) f.passes).read.long in
      (f.behind, omega (arith, length-take r.count (drop r.place run)), f.inside)

-- each report takes 8 octets or more
few : (rule : CheckRule) (k place : ℕ) (s : List ℕ) → Octets s → k ≤ length s → 8 * length (pass rule k place s) + k ≤ length s
unfolding pass
few rule k place [] octets inside = omega arith
few rule zero place (x ∷ s) octets inside =
    by (λ k inside. few rule k (suc place) s (λ i. octets (suc i)) inside) (acceptable rule (own_octets (x ∷ s))) refl
  where
    by : ((k : ℕ) → k ≤ length s → 8 * length (pass rule k (suc place) s) + k ≤ length s) → (b : Bool) → acceptable rule (own_octets (x ∷ s)) ≡ b
        → 8 * length (cond b (report place (own_count (x ∷ s)) ∷ pass rule (own_count (x ∷ s) - 1) (suc place) s) (pass rule 0 (suc place) s)) + 0
        ≤ length (x ∷ s)
    by later true e =
        let n = own_count (x ∷ s) in
        let size = own_size (x ∷ s) rule octets e in
        let within : n ≤ suc (length s) = omega (arith, own_inside (x ∷ s), size) in
        let least : 8 ≤ n = size_least (data_length (x ∷ s)) in
        omega (arith, later (n - 1) (omega arith))
    by later false e = omega (arith, later 0 (omega arith))
few rule (suc k) place (x ∷ s) octets inside = omega (arith, few rule k (suc place) s (λ i. octets (suc i)) (omega arith))

pub few_rest : (rule : CheckRule) (run : List ℕ) → Octets run → 8 * length (rest rule run 0) ≤ length run
few_rest rule run octets = omega (arith, few rule 0 0 run octets (omega arith))
