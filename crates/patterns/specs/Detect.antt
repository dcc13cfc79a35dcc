-- What `detect_patterns` answers and leaves in the lent list: questions 31 and 32.
-- Assumes nothing.
use Rattle.std.specs.Prelude.{ℕ, ◌*◌, List, [], ◌∷◌, leb, length, Result}
use Rattle.octets.specs.Question.{Question, ask, first_no}
use Rattle.octets.specs.Refusal.{result_of}
use Rattle.octets.specs.declared.refusal.Refusal.{Refusal}
use Rattle.octets.specs.Output.{write_output}
use Rattle.octets.specs.Size.{size_question}
use Rattle.patterns.specs.Entries.{entries, entry_numbers}

-- 31, then 32: all entries fit into the lent list
unfoldable pub patterns_questions : List ℕ → List ℕ → List Question
patterns_questions s out = size_question s ∷ ask 32 (leb (4 * length (entries s)) (length out)) ∷ []

-- the first question that fails, or 0
unfoldable pub patterns_question : List ℕ → List ℕ → ℕ
patterns_question s out = first_no (patterns_questions s out)

-- the answer: the count of the entries, or the refusal
unfoldable pub patterns_answer : List ℕ → List ℕ → Result ℕ Refusal
patterns_answer s out = result_of (patterns_question s out) (length (entries s))

-- the lent list afterwards: the entries' numbers at its front, or as it was
unfoldable pub patterns_output : List ℕ → List ℕ → List ℕ
patterns_output s out = write_output (patterns_question s out) (entry_numbers (entries s)) out
