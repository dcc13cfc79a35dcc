-- What the finder's answer means, place by place, and when it is the search's.
-- Assumes nothing.
use mathlib.Core.Path.{◌≡◌, refl, sym, subst}
use mathlib.Core.List.{List}
use Prim.Native.Nat.{ℕ, ◌≤◌, ◌<◌}
use native.Mathlib.Omega.{arith}
use borrow.Author.Tests.{le-leb, lt-leb}
use lib.ListN.{length}
use Rattle.std.specs.Prelude.{Option, Result, Ok, Err, IfOk}
use Rattle.octets.specs.Question.{first_no}
use Rattle.octets.specs.Refusal.{refused}
use Rattle.octets.specs.declared.refusal.Refusal.{Refusal}
use Rattle.octets.proofs.Parts.{Octets}
use Rattle.octets.proofs.Questions.{none_fails}
use Rattle.octets.proofs.Refusals.{accepts, none_failed, passes, fails}
use Rattle.crc.specs.declared.CheckRule.{CheckRule}
use Rattle.run_search.specs.declared.Report.{Report}
use Rattle.run_search.specs.Found.{Found}
use Rattle.run_search.specs.Search.{search_from}
use Rattle.run_search.proofs.Plain.{search_plain}
use Rattle.run_finder.specs.Find.{find_questions, find}

module _ (rule : CheckRule) (run : List ℕ) where
  -- where no question fails, the answer is what the search finds
  abbrev value : ℕ → Option Report
  value place = (search_from rule run place).found

  pub is_value : (place : ℕ) {found : Option Report} → find rule run place ≡ Ok found → (first_no (find_questions run place) ≡ 0) × (found ≡ value place)
  unfolding find
  is_value place e = none_failed (value place) (first_no (find_questions run place)) refl e

  module _ (octets : Octets run) where
    -- what the finder's answer means
    pub found_plain : (place : ℕ) {found : Option Report} → find rule run place ≡ Ok found → Found rule run place found
    found_plain place e = subst (Found rule run place) (sym (is_value place e).1) (search_plain rule run octets place)

    pub plain : (place : ℕ) (answer : Result (Option Report) Refusal) → answer ≡ find rule run place → IfOk answer (Found rule run place)
    plain place (Ok found) e = found_plain place (sym e)
    plain place (Err refusal) e = tt

  -- the questions

  pub too_long : (place : ℕ) → 65535 < length run → refused 31 ≡ find rule run place
  unfolding find find_questions
  too_long place h = fails (value place) 31 _ refl (lt-leb (length run) 65535 h)

  module _ (fits : length run ≤ 65535) where
    pub beyond : (place : ℕ) → length run < place → refused 33 ≡ find rule run place
    unfolding find find_questions
    beyond place h =
        passes (value place) 31 _ (le-leb (length run) 65535 fits) (fails (value place) 33 _ refl (lt-leb place (length run) h))

    pub find_search : (place : ℕ) → place ≤ length run → find rule run place ≡ Ok (search_from rule run place).found
    unfolding find find_questions
    find_search place h =
        sym (accepts (value place) (none_fails (find_questions run place) (le-leb (length run) 65535 fits, (le-leb place (length run) h, tt))))
