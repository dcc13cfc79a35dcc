-- Reading the record that ends at a given end of the log: questions 47 and 41 to 44.
-- Assumes nothing.
use Rattle.std.specs.Prelude.{ℕ, ◌+◌, ◌-◌, ◌≤◌, ◌≡◌, Bool, cond, true, List, [], ◌∷◌, ◌++◌, leb, eqb, length, get_or, take, drop, Option, Some, None, Result, Ok, Err}
use Rattle.octets.specs.Number.{number, number4}
use Rattle.octets.specs.Question.{Question, ask, first_no}
use Rattle.octets.specs.Range.{within}
use Rattle.octets.specs.Refusal.{result_of}
use Rattle.octets.specs.declared.refusal.Refusal.{Refusal}
use Rattle.log_record.specs.Kind.{kind_number, kind_numbered, known_kind}
use Rattle.log_record.specs.Record.{allowed_size, time_octets, trailer_size, record_octets}
use Rattle.log_record.specs.declared.LogRecord.{LogRecord}

-- a record of the log: the number of its kind, the second when it was made, the place of its first octet, how many octets it has
abbrev pub log_record : ℕ → Option ℕ → ℕ → ℕ → LogRecord
log_record k t i n = record { kind = kind_numbered k; time = t; start = i; length = n }

-- a kind's octet says that there is a time
abbrev pub timed : ℕ → Bool
timed = within 0x0B 0x0D

-- the kind that an octet stands for
unfoldable pub kind_of : ℕ → ℕ
kind_of octet = cond (timed octet) (octet - 10) octet

module _ (log : List ℕ) (end : ℕ) where
  -- the kind's octet in the trailer before the end
  abbrev pub octet_before : ℕ
  octet_before = get_or log (end - 3) 0

  -- the length in it
  abbrev pub length_before : ℕ
  length_before = number (get_or log (end - 2) 0) (get_or log (end - 1) 0)

  -- the second in the four octets before it
  abbrev pub second_before : ℕ
  second_before = number4 (get_or log (end - 7) 0) (get_or log (end - 6) 0) (get_or log (end - 5) 0) (get_or log (end - 4) 0)

  -- the second when the record was made, if it has a time
  unfoldable pub time_before : Option ℕ
  time_before = cond (timed octet_before) (Some second_before) None

  -- how many octets the record takes: its own, its time's, its trailer's
  abbrev pub size_before : ℕ
  size_before = length_before + (length (time_octets time_before) + trailer_size)

  -- the questions above end 0, in document 01's order
  abbrev pub trailer_questions : List Question
  trailer_questions =
      ask 41 (leb trailer_size end)
      ∷ ask 42 (known_kind (kind_of octet_before))
      ∷ ask 43 (allowed_size length_before)
      ∷ ask 44 (leb size_before end)
      ∷ []

  -- 47, then, above end 0, those
  unfoldable pub read_question : ℕ
  read_question = first_no (ask 47 (leb end (length log)) ∷ cond (eqb end 0) [] trailer_questions)

  -- the record whose trailer points back to its first octet
  unfoldable pub record_before : LogRecord
  record_before = log_record (kind_of octet_before) time_before (end - size_before) length_before

  -- what the questions to the trailer answer, at end 0 too
  unfoldable pub read_before : Result LogRecord Refusal
  read_before = result_of (first_no trailer_questions) record_before

  -- what reading from the end answers
  unfoldable pub read_record : Result (Option LogRecord) Refusal
  read_record = result_of read_question (cond (eqb end 0) None (Some record_before))

-- a record's octets in the log
abbrev pub payload_in : List ℕ → LogRecord → List ℕ
payload_in log x = take x.length (drop x.start log)

-- those of the record that was read; none if none was
abbrev pub payload_of : List ℕ → Result (Option LogRecord) Refusal → List ℕ
payload_of log (Ok (Some x)) = payload_in log x
payload_of log (Ok None) = []
payload_of log (Err refusal) = []

-- a record ends there: up to the end the log is what stands before its start, and then the record
pub record EndsAt (log : List ℕ) (end : ℕ) (x : LogRecord) : Type 0 where
  pub sized : allowed_size x.length ≡ true
  pub fits : end ≤ length log
  pub octets : take end log ≡ take x.start log ++ record_octets (kind_number x.kind) x.time (payload_in log x)

-- a record is read exactly where one ends
abbrev pub ReadsWhatEnds : List ℕ → ℕ → Result (Option LogRecord) Refusal → Type 0
ReadsWhatEnds log end answer = (x : LogRecord) → (answer ≡ Ok (Some x) → EndsAt log end x) × (EndsAt log end x → answer ≡ Ok (Some x))
