-- A log that was written by appending and has lost octets at its front: which records are still whole, and what reading the rest gives.
-- Assumes nothing.
use Rattle.std.specs.Prelude.{ℕ, ◌+◌, ◌-◌, ◌≡◌, Bool, cond, true, false, ◌||◌, List, [], ◌∷◌, map, eqb, leb, length, take, drop, Ok}
use Rattle.octets.specs.Refusal.{refused}
use Rattle.log_record.specs.Record.{Entry}
use Rattle.log_record.specs.declared.LogRecord.{LogRecord}
use Rattle.log_reading.specs.Reading.{Last, Listed}
use Rattle.log_reading.specs.Written.{Written, log_of, records_of, ReadsAs}
use Rattle.log_reading.specs.declared.RecordsCounted.{RecordsCounted}

-- the records that start at a place or later
unfoldable pub starting_from : ℕ → List LogRecord → List LogRecord
starting_from place [] = []
starting_from place (x ∷ xs) = cond (leb place x.start) (x ∷ starting_from place xs) (starting_from place xs)

-- whether one of them starts there
unfoldable pub starts_at : ℕ → List LogRecord → Bool
starts_at place [] = false
starts_at place (x ∷ xs) = eqb place x.start || starts_at place xs

-- a record as it stands in the log without so many octets at its front
abbrev pub moved : ℕ → LogRecord → LogRecord
moved lost x = record x { start = x.start - lost }

-- the answer behind the whole records: "start reached" if none is torn, and else 41 if one or two octets of the torn one are left, 44 if more
unfoldable pub answer_behind : Bool → ℕ → Last
answer_behind true left = Ok tt
answer_behind false left = refused (cond (leb left 2) 41 44)

-- so many octets are lost at the front of a log with these entries, newest first
module _ (lost : ℕ) (es : List Entry) where
  -- the records that are still whole, as they stood before
  unfoldable pub whole_records : List LogRecord
  whole_records = starting_from lost (records_of es)

  -- their entries: as many, the newest
  unfoldable pub whole_entries : List Entry
  whole_entries = take (length whole_records) es

  -- how many octets are left beside theirs: those of the torn record
  unfoldable pub torn_octets : ℕ
  torn_octets = length (log_of es) - lost - length (log_of whole_entries)

  -- no record is torn: the rest begins at an end of the log or where a record starts
  unfoldable pub none_torn : Bool
  none_torn = eqb lost 0 || eqb lost (length (log_of es)) || starts_at lost (records_of es)

  -- the answer behind the whole records
  unfoldable pub last_answer : Last
  last_answer = answer_behind none_torn torn_octets

  -- what reading the rest gives
  abbrev pub rest : Listed
  rest = record { records = map (moved lost) whole_records; last = last_answer }

-- reading a log whose octets up to the end are those of a written one behind the lost octets gives the rest of it
abbrev pub ReadsTorn : List ℕ → ℕ → RecordsCounted → Type 0
ReadsTorn log end answer =
    (buffer : List ℕ) (es : List Entry) (lost : ℕ) → Written buffer (lost + end) es → take end log ≡ take end (drop lost buffer)
    → ReadsAs log end (rest lost es) (whole_entries lost es) answer
