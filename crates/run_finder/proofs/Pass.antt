-- The reports of a run, octet by octet: what the finder's calls give, one after another.
-- Assumes nothing.
use mathlib.Core.Path.{◌≡◌, refl, sym, ap, ◌∙◌}
use mathlib.Core.List.{List, ◌∷◌}
use Prim.Native.Nat.{ℕ, zero, suc, ◌+◌, ◌*◌, ◌≤◌, ◌<◌}
use native.Mathlib.Omega.{arith}
use borrow.Author.Tests.{le-leb}
use lib.ListN.{length, drop, length-take}
use Rattle.std.specs.Prelude.{Option, Some, None, Result, Ok, Err}
use Rattle.octets.specs.declared.refusal.Refusal.{Refusal}
use Rattle.octets.proofs.Parts.{Octets, octets_take, octets_drop}
use Rattle.octets.proofs.Refusals.{ok_or_refused}
use Rattle.crc.specs.declared.CheckRule.{CheckRule}
use Rattle.run_search.specs.declared.Report.{Report}
use Rattle.run_search.specs.Found.{octets_of}
use Rattle.run_search.specs.Reports.{rest, reports, and_on}
use Rattle.run_search.specs.Search.{end_of}
use Rattle.run_finder.specs.Find.{find, report_in}
use Rattle.run_search.proofs.Acceptables.{facts}
use Rattle.run_search.proofs.Pass.{rest_search, few_rest}
use Rattle.run_search.proofs.Whole.{reports_rest}
use Rattle.run_finder.proofs.Finds.{find_search, found_plain}
use Rattle.run_finder.specs.Reading.{CallsGive, end, next, WholeReading, within_calls, reading}

module _ (rule : CheckRule) (run : List ℕ) where
  module _ (fits : length run ≤ 65535) where
    -- from a place on, the reports are the call's and those from its end on
    pub rest_find : (place : ℕ) → place ≤ length run → rest rule run place ≡ and_on (report_in (find rule run place)) (rest rule run)
    rest_find place within = rw (find_search rule run fits place within) (rest_search rule run place)

    module _ (octets : Octets run) where
      -- a report goes on: it starts at the place or later, has at least 8 octets, and ends within the run
      pub onward : (place : ℕ) (r : Report) → find rule run place ≡ Ok (Some r) → (place ≤ r.place) × (8 ≤ r.count) × (end_of r ≤ length run)
      onward place r e =
          let f = (found_plain rule run octets place e).reported r refl in
          let least = (facts rule (octets_of run r) (octets_take r.count (drop r.place run) (octets_drop r.place run octets)) f.passes).read.long in
          (f.behind, omega (arith, length-take r.count (drop r.place run)), f.inside)

      -- calls enough come to "none", and none is refused
      within_calls_lem : (n place : ℕ) → place ≤ length run → length run < place + n → CallsGive rule run place (within_calls rule run n place)
      unfolding within_calls
      within_calls_lem zero place within enough = absurd (omega arith)
      within_calls_lem (suc n) place within enough =
          by (λ r inside more. within_calls_lem n (end_of r) inside more) (find rule run place) refl
        where
          by : ((r : Report) → end_of r ≤ length run → length run < end_of r + n → CallsGive rule run (end_of r) (within_calls rule run n (end_of r)))
              → (answer : Result (Option Report) Refusal) → find rule run place ≡ answer → CallsGive rule run place (and_on (report_in answer) (within_calls rule run n))
          by on (Ok (Some r)) e = let o = onward place r e in next e (on r o.2 (omega arith))
          by on (Ok None) e = end e
          by on (Err refusal) e = absurd (ok_or_refused (find_search rule run fits place within) e)

      reading_ends : CallsGive rule run 0 (reading rule run)
      unfolding reading
      reading_ends = within_calls_lem _ 0 (omega arith) (omega arith)

      read_rest : {place : ℕ} {rs : List Report} → place ≤ length run → CallsGive rule run place rs → rs ≡ rest rule run place
      read_rest {place} within (end e) = sym (rest_find place within ∙ rw e)
      read_rest {place} within (next {r = r} e on) =
          ap (λ (l : List Report). r ∷ l) (read_rest (onward place r e).2 on) ∙ sym (rest_find place within ∙ rw e)

      pub rest_reading : reading rule run ≡ rest rule run 0
      rest_reading = read_rest (omega arith) reading_ends

      -- a whole reading gives all the reports of the run
      pub reading_reports : reading rule run ≡ reports rule run
      reading_reports = rest_reading ∙ sym (reports_rest rule run (le-leb (length run) 65535 fits))

      -- each of them takes 8 octets or more
      pub few_reports : 8 * length (reading rule run) ≤ length run
      few_reports = rw rest_reading (few_rest rule run octets)

      pub whole_reading : WholeReading rule run (reading rule run)
      whole_reading = record { read = reading_ends; only = λ others read. read_rest (omega arith) read ∙ sym rest_reading }
