-- What the finder answers.
-- Assumes nothing.
use Rattle.std.specs.Prelude.{ℕ, List, [], ◌∷◌, leb, length, Option, None, Result, Ok, Err}
use Rattle.octets.specs.Question.{Question, ask, first_no}
use Rattle.octets.specs.Refusal.{result_of}
use Rattle.octets.specs.Size.{size_question}
use Rattle.octets.specs.declared.refusal.Refusal.{Refusal}
use Rattle.crc.specs.declared.CheckRule.{CheckRule}
use Rattle.run_search.specs.declared.Report.{Report}
use Rattle.run_search.specs.Search.{search_from}

-- the questions: 31, then 33, place not beyond the end?
unfoldable pub find_questions : List ℕ → ℕ → List Question
find_questions run place = size_question run ∷ ask 33 (leb place (length run)) ∷ []

-- what the finder answers: the search's answer, or the first question that fails
unfoldable pub find : CheckRule → List ℕ → ℕ → Result (Option Report) Refusal
find rule run place = result_of (first_no (find_questions run place)) (search_from rule run place).found

-- the report that an answer gives, if it gives one
abbrev pub report_in : Result (Option Report) Refusal → Option Report
report_in (Ok found) = found
report_in (Err refusal) = None
