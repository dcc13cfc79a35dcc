-- A log that was written by appending, and what reading it gives.
-- Assumes nothing.
use Rattle.std.specs.Prelude.{ℕ, ◌≡◌, List, [], ◌∷◌, ◌++◌, map, length, take, Ok, Err}
use Rattle.log_record.specs.Kind.{kind_number}
use Rattle.log_record.specs.Record.{Entry, record_octets}
use Rattle.log_record.specs.Read.{log_record, payload_in}
use Rattle.log_append.specs.Append.{append_answer, append_output}
use Rattle.log_reading.specs.Reading.{Back, Listed, WholeBack, counted}
use Rattle.octets.specs.declared.refusal.Refusal.{Refusal}
use Rattle.log_record.specs.declared.LogRecord.{LogRecord}
use Rattle.log_reading.specs.declared.RecordsCounted.{RecordsCounted}

-- calls of `append`, the first with used count 0, leave this buffer and used count, and have taken these entries, newest first
pub data Written : List ℕ → ℕ → List Entry → Type 0 where
  empty : {buffer : List ℕ} → Written buffer 0 []
  taken : {buffer : List ℕ} {used n : ℕ} {es : List Entry} → Written buffer used es → (e : Entry)
      → append_answer buffer used e.kind e.time e.payload ≡ Ok n
      → Written (append_output buffer used e.kind e.time e.payload) n (e ∷ es)
  refused : {buffer : List ℕ} {used : ℕ} {refusal : Refusal} {es : List Entry} → Written buffer used es → (e : Entry)
      → append_answer buffer used e.kind e.time e.payload ≡ Err refusal
      → Written (append_output buffer used e.kind e.time e.payload) used es

-- the octets of a log with these entries, newest first
unfoldable pub log_of : List Entry → List ℕ
log_of [] = []
log_of (e ∷ es) = log_of es ++ record_octets e.kind e.time e.payload

-- the records of that log, newest first
unfoldable pub records_of : List Entry → List LogRecord
records_of [] = []
records_of (e ∷ es) = log_record e.kind e.time (length (log_of es)) (length e.payload) ∷ records_of es

-- reading a written log gives its records, newest first, with their octets, then "start reached"
pub record GivesEntries (log : List ℕ) (end : ℕ) (es : List Entry) (answer : RecordsCounted) : Type 0 where
  pub read : Back log end (records_of es) (Ok tt)
  pub payloads : map (payload_in log) (records_of es) ≡ map (λ (e : Entry). e.payload) es
  pub count : answer ≡ record { count = length es; last = Ok tt }

-- so it is of every log whose octets up to the end are those of a written one
abbrev pub ReadsWritten : List ℕ → ℕ → RecordsCounted → Type 0
ReadsWritten log end answer =
    (buffer : List ℕ) (es : List Entry) → Written buffer end es → take end log ≡ take end buffer → GivesEntries log end es answer

-- what a record of a log was written from: its kind, its time and its octets
abbrev pub entry_in : List ℕ → LogRecord → Entry
entry_in log x = record { kind = kind_number x.kind; time = x.time; payload = payload_in log x }

-- a whole reading gives these records and this last answer, and no others; they were written from these entries; an answer counts them
pub record ReadsAs (log : List ℕ) (end : ℕ) (l : Listed) (es : List Entry) (answer : RecordsCounted) : Type 0 where
  pub read : WholeBack log end l
  pub entries : map (entry_in log) l.records ≡ es
  pub count : answer ≡ counted l
