-- What the functions for a whole reading answer, and what they leave in the lent list.
-- Assumes nothing.
use Rattle.std.specs.Prelude.{◌≡◌, true, List, [], ◌∷◌, ℕ, zero, suc, leb, length, get_or, drop, Result, Ok, IfOk}
use Rattle.octets.specs.Output.{write_output}
use Rattle.octets.specs.Question.{ask, is_yes, first_no}
use Rattle.octets.specs.Refusal.{result_of}
use Rattle.octets.specs.Size.{size_question}
use Rattle.octets.specs.declared.refusal.Refusal.{Refusal}
use Rattle.crc.specs.declared.CheckRule.{CheckRule}
use Rattle.run_search.specs.declared.Report.{Report}
use Rattle.run_search.specs.Reports.{list_numbers}
use Rattle.run_search.specs.Search.{report}
use Rattle.run_finder.specs.Reading.{reading}

-- counting asks 31 alone, and answers the count of the reports
unfoldable pub count_answer : CheckRule → List ℕ → Result ℕ Refusal
count_answer rule run = result_of (first_no (size_question run ∷ [])) (length (reading rule run))

-- where the answer is a count, it counts reports of which P holds
abbrev pub CountOf : (List Report → Type 0) → Result ℕ Refusal → Type 0
CountOf P answer = IfOk answer (λ n. (rs : List Report) × P rs × (length rs ≡ n))

-- every run that passes question 31, as those do that demand 3 speaks of, is counted
abbrev pub Counted : CheckRule → List ℕ → Result ℕ Refusal → Type 0
Counted rule run answer = is_yes (size_question run) ≡ true → answer ≡ Ok (length (reading rule run))

-- the first question that fails, or 0: 31, then 32: all reports fit into the lent list
unfoldable pub read_question : CheckRule → List ℕ → List ℕ → ℕ
read_question rule run out =
    first_no (size_question run ∷ ask 32 (leb (length (list_numbers (reading rule run))) (length out)) ∷ [])

-- the answer: the count of the reports, or the question
unfoldable pub read_answer : CheckRule → List ℕ → List ℕ → Result ℕ Refusal
read_answer rule run out = result_of (read_question rule run out) (length (reading rule run))

-- the lent list afterwards: the reports' numbers at its front, or as it was
unfoldable pub read_output : CheckRule → List ℕ → List ℕ → List ℕ
read_output rule run out = write_output (read_question rule run out) (list_numbers (reading rule run)) out

-- the n reports whose numbers stand in front of a list
abbrev pub reports_in : ℕ → List ℕ → List Report
reports_in zero list = []
reports_in (suc n) list = report (get_or list 0 0) (get_or list 1 0) ∷ reports_in n (drop 2 list)

-- where the answer is a count, P holds of that many reports in front of the list
abbrev pub Handed : (List Report → Type 0) → Result ℕ Refusal → List ℕ → Type 0
Handed P answer list = IfOk answer (λ n. P (reports_in n list))
