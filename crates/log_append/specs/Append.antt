-- Appending a record: questions 47, 42, 43 and 46, the answer and the lent buffer.
-- Assumes nothing.
use Rattle.std.specs.Prelude.{ℕ, ◌+◌, ◌-◌, ◌≡◌, List, [], ◌∷◌, ◌++◌, leb, length, take, Option, Some, Result, Ok, IfOk}
use Rattle.octets.specs.Question.{Question, ask, first_no}
use Rattle.octets.specs.Output.{write_output}
use Rattle.octets.specs.Refusal.{result_of}
use Rattle.log_record.specs.Kind.{known_kind}
use Rattle.log_record.specs.Record.{allowed_size, record_octets}
use Rattle.log_record.specs.Read.{log_record, read_record, payload_of}
use Rattle.octets.specs.declared.refusal.Refusal.{Refusal}

module _ (buffer : List ℕ) (used kind : ℕ) (time : Option ℕ) (payload : List ℕ) where
  -- the log afterwards: its used octets, then the record
  abbrev pub longer : List ℕ
  longer = take used buffer ++ record_octets kind time payload

  -- the questions in document 01's order
  unfoldable pub append_questions : List Question
  append_questions =
      ask 47 (leb used (length buffer))
      ∷ ask 42 (known_kind kind)
      ∷ ask 43 (allowed_size (length payload))
      ∷ ask 46 (leb (used + length (record_octets kind time payload)) (length buffer))
      ∷ []

  -- the first that fails, or 0
  unfoldable pub append_question : ℕ
  append_question = first_no append_questions

  -- what appending answers: the new used count, or the question
  unfoldable pub append_answer : Result ℕ Refusal
  append_answer = result_of append_question (used + length (record_octets kind time payload))

  -- the buffer afterwards: the longer log at its front, or as it was
  unfoldable pub append_output : List ℕ
  append_output = write_output append_question longer buffer

  -- reading from a new used count gives the record and its octets, and from the old count, or any k octets before it, what it
  -- gave before
  pub record GivesBack (after : List ℕ) (n : ℕ) : Type 0 where
    pub read : read_record after n ≡ Ok (Some (log_record kind time used (length payload)))
    pub octets : payload_of after (read_record after n) ≡ payload
    pub before : (k : ℕ) → read_record after (used - k) ≡ read_record buffer (used - k)

  -- so it is where the answer is a used count
  abbrev pub ReadsBack : List ℕ → Result ℕ Refusal → Type 0
  ReadsBack after answer = IfOk answer (λ n. GivesBack after n)
