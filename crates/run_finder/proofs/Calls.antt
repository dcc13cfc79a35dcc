-- The answers of a caller's own calls: they give the whole reading, and so demand 3.
-- Assumes nothing.
use mathlib.Core.Path.{◌≡◌, sym, subst, ◌∙◌}
use mathlib.Core.List.{List, [], ◌∷◌, ◌++◌, append_assoc, append-nil}
use Prim.Native.Nat.{ℕ, ◌≤◌}
use native.Mathlib.Omega.{arith}
use borrow.Author.Tests.{leb-true}
use lib.ListN.{length, drop}
use Rattle.octets.specs.Question.{first_no}
use Rattle.octets.proofs.Parts.{Octets}
use Rattle.octets.proofs.Questions.{all_yes}
use Rattle.octets.proofs.Refusals.{ok_or_refused}
use Rattle.crc.specs.declared.CheckRule.{CheckRule}
use Rattle.run_search.specs.declared.Report.{Report}
use Rattle.octets.specs.declared.refusal.Refusal.{Refusal}
use Rattle.std.specs.Prelude.{Option, None, Result, Ok}
use Rattle.run_search.specs.Search.{search_from}
use Rattle.run_finder.specs.Find.{find_questions, find}
use Rattle.run_finder.specs.Reading.{CallsGive, end, next, WholeReading, reading}
use Rattle.run_finder.specs.Demand.{Demand3}
use Rattle.run_finder.specs.Calls.{Called, none, more, Ended, Calls}
use Rattle.run_finder.proofs.Finds.{is_value, find_search}
use Rattle.run_finder.proofs.Pass.{onward, whole_reading}
use Rattle.run_finder.proofs.Demand.{demand_3}

module _ (rule : CheckRule) (run : List ℕ) where
  -- what the next calls give stands behind what the calls so far gave
  gives : {rs later : List Report} {place : ℕ} → Called rule run rs place → CallsGive rule run place later → CallsGive rule run 0 (rs ++ later)
  gives none on = on
  gives {later = later} (more {rs = rs} {r = r} before e) on = rw (append_assoc rs (r ∷ []) later) (gives before (next e on))

  -- calls that give reports and then "none" are a caller's
  comes : {rs later : List Report} {place : ℕ} → Called rule run rs place → CallsGive rule run place later
      → (p : ℕ) × (all : List Report) × Ended rule run p (find rule run p) all
  comes {rs} {place = place} before (end e) = (place, rs, record { called = before; none = e })
  comes {rs} before (next {r = r} e on) = comes {rs = rs ++ (r ∷ [])} (more before e) on

  module _ (octets : Octets run) where
    module _ (fits : length run ≤ 65535) where
      inside : {rs : List Report} {place : ℕ} → Called rule run rs place → place ≤ length run
      inside none = omega arith
      inside (more {place = place} {r = r} before e) = (onward rule run fits octets place r e).2

      -- at "none" the reports are those of the whole reading
      all : {rs : List Report} {place : ℕ} → Called rule run rs place → find rule run place ≡ Ok None → rs ≡ reading rule run
      all {rs} before e = (whole_reading rule run fits octets).only rs (rw (append-nil rs) at (gives before (end e)))

    -- where the answer is "none", question 31 was passed
    none_fits : (place : ℕ) → find rule run place ≡ Ok None → length run ≤ 65535
    unfolding find_questions
    none_fits place e =
        leb-true (length run) 65535 (all_yes (find_questions run place) tt (is_value rule run place e).0).0

    pub calls : (place : ℕ) {answer : Result (Option Report) Refusal} → answer ≡ find rule run place → Calls rule run place answer
    calls place e = record {
      goes = λ rs r before found. more before (sym e ∙ found);
      ends = λ rs at_none.
          let none = sym e ∙ at_none.none in
          let fits = none_fits place none in
          let same = all fits at_none.called none in
          (subst (WholeReading rule run) (sym same) (whole_reading rule run fits octets), subst (Demand3 rule run) (sym same) (demand_3 rule run octets));
      taken = λ rs refusal before passed refused.
          let fits = leb-true (length run) 65535 passed in
          ok_or_refused (find_search rule run fits place (inside fits before)) (sym e ∙ refused);
      ended = λ passed. comes none (whole_reading rule run (leb-true (length run) 65535 passed) octets).read;
    }
