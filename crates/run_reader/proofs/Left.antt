-- The reports that are left from a place on, from the finder's answer there.
-- Assumes nothing.
use mathlib.Core.Path.{◌≡◌, refl, sym, ap, ◌∙◌}
use mathlib.Core.Bool.{Bool, true, false, cond}
use mathlib.Core.List.{List, [], ◌∷◌}
use Prim.Native.Nat.{ℕ}
use native.Mathlib.Omega.{arith}
use borrow.Author.Tests.{leb-true, leb-false}
use lib.Dec.{leb}
use lib.ListN.{length, drop_of_length-le}
use Rattle.std.specs.Prelude.{Option, Some, None, Ok, Err}
use Rattle.octets.specs.Size.{at_most_65535}
use Rattle.octets.specs.declared.refusal.Refusal.{Refusal}
use Rattle.octets.proofs.Questions.{all_yes}
use Rattle.octets.proofs.Refusals.{ok_or_refused}
use Rattle.crc.specs.declared.CheckRule.{CheckRule}
use Rattle.run_search.specs.declared.Report.{Report}
use Rattle.run_search.specs.Reports.{pass, rest, and_on}
use Rattle.run_search.specs.Search.{end_of}
use Rattle.run_search.proofs.Pass.{rest_search}
use Rattle.run_finder.specs.Find.{find_questions, find}
use Rattle.run_finder.proofs.Finds.{is_value, find_search}

module _ (rule : CheckRule) (run : List ℕ) where
  abbrev left : ℕ → List Report
  left place = cond (at_most_65535 (length run)) (rest rule run place) []

  -- where no question fails, they are what the search finds, and those from its end on
  as_found : (place : ℕ) {found : Option Report} → find rule run place ≡ Ok found → left place ≡ and_on found (rest rule run)
  unfolding find_questions
  as_found place e =
      let v = is_value rule run place e in
      rw ((all_yes (find_questions run place) tt v.0).0, v.1) (rest_search rule run place)

  pub left_some : (place : ℕ) {r : Report} → find rule run place ≡ Ok (Some r) → left place ≡ r ∷ left (end_of r)
  unfolding find_questions
  left_some place {r} e =
      let fits = (all_yes (find_questions run place) tt (is_value rule run place e).0).0 in
      as_found place e ∙ ap (λ (b : Bool). r ∷ cond b (rest rule run (end_of r)) []) (sym fits)

  pub left_none : (place : ℕ) → find rule run place ≡ Ok None → left place ≡ []
  left_none place e = as_found place e

  -- where it refuses there are none
  pub left_refused : (place : ℕ) {refusal : Refusal} → find rule run place ≡ Err refusal → left place ≡ []
  unfolding pass
  left_refused place e = by (at_most_65535 (length run)) (leb place (length run)) refl refl
    where
      by : (b c : Bool) → at_most_65535 (length run) ≡ b → leb place (length run) ≡ c → cond b (rest rule run place) [] ≡ []
      by false c fits inside = refl
      by true true fits inside =
          absurd (ok_or_refused (find_search rule run (leb-true (length run) 65535 fits) place (leb-true place (length run) inside)) e)
      by true false fits inside = rw (drop_of_length-le run {i = place} (omega (arith, leb-false place (length run) inside)))
