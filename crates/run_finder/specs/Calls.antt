-- What an answer of the finder means to a caller who reads a run whole: from place 0, each next call from the last report's end, until "none".
-- Assumes nothing.
use Rattle.std.specs.Prelude.{◌≡◌, true, List, [], ◌∷◌, ◌++◌, ℕ, Option, Some, None, Result, Ok, Err}
use Rattle.octets.specs.Question.{is_yes}
use Rattle.octets.specs.Size.{size_question}
use Rattle.octets.specs.declared.refusal.Refusal.{Refusal}
use Rattle.crc.specs.declared.CheckRule.{CheckRule}
use Rattle.run_search.specs.declared.Report.{Report}
use Rattle.run_search.specs.Search.{end_of}
use Rattle.run_finder.specs.Find.{find}
use Rattle.run_finder.specs.Reading.{WholeReading}
use Rattle.run_finder.specs.Demand.{Demand3}

-- the caller's calls so far gave these reports, oldest first, and the next call is from this place
pub data Called (rule : CheckRule) (run : List ℕ) : List Report → ℕ → Type 0 where
  none : Called rule run [] 0
  more : {rs : List Report} {place : ℕ} {r : Report} → Called rule run rs place → find rule run place ≡ Ok (Some r)
      → Called rule run (rs ++ r ∷ []) (end_of r)

-- the caller's calls gave these reports, and the answer to the next one is "none"
pub record Ended (rule : CheckRule) (run : List ℕ) (place : ℕ) (answer : Result (Option Report) Refusal) (rs : List Report) : Type 0 where
  pub called : Called rule run rs place
  pub none : answer ≡ Ok None

-- what the answer to the next call means: a report is one more; at "none" the caller has the reports of a whole reading, and demand 3 holds of
-- them; a run that passes question 31 is not refused, and the calls come to "none"
pub record Calls (rule : CheckRule) (run : List ℕ) (place : ℕ) (answer : Result (Option Report) Refusal) : Type 0 where
  pub goes : (rs : List Report) (r : Report) → Called rule run rs place → answer ≡ Ok (Some r) → Called rule run (rs ++ r ∷ []) (end_of r)
  pub ends : (rs : List Report) → Ended rule run place answer rs → WholeReading rule run rs × Demand3 rule run rs
  pub taken : (rs : List Report) (refusal : Refusal) → Called rule run rs place → is_yes (size_question run) ≡ true → answer ≡ Err refusal → ⊥
  pub ended : is_yes (size_question run) ≡ true → (p : ℕ) × (rs : List Report) × Ended rule run p (find rule run p) rs
