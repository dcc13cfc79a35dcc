-- The whole reading of a log: calls back from an end, each next from the last record's start, until one gives no record.
-- Assumes nothing.
use Rattle.std.specs.Prelude.{ℕ, zero, suc, ◌≡◌, List, [], ◌∷◌, length, Option, Some, None, Result, Ok, Err}
use Rattle.octets.specs.declared.refusal.Refusal.{Refusal}
use Rattle.octets.specs.declared.refusal.Refusal.TheVariants.{LengthBeyondEnd}
use Rattle.log_record.specs.Read.{read_record}
use Rattle.log_record.specs.declared.LogRecord.{LogRecord}
use Rattle.log_reading.specs.declared.RecordsCounted.{RecordsCounted}

-- how a whole reading ends: the start is reached, or a call refuses
abbrev pub Last : Type 0
Last = Result (Unit {0}) Refusal

-- the calls from an end back give these records, newest first, and then this answer
pub data Back (log : List ℕ) : ℕ → List LogRecord → Last → Type 0 where
  start : {end : ℕ} → read_record log end ≡ Ok None → Back log end [] (Ok tt)
  refused : {end : ℕ} {refusal : Refusal} → read_record log end ≡ Err refusal → Back log end [] (Err refusal)
  next : {end : ℕ} {x : LogRecord} {xs : List LogRecord} {last : Last}
      → read_record log end ≡ Ok (Some x) → Back log x.start xs last → Back log end (x ∷ xs) last

-- what a whole reading gives
pub record Listed : Type 0 where
  pub records : List LogRecord
  pub last : Last

-- a whole reading gives these records and this last answer, and no others
pub record WholeBack (log : List ℕ) (end : ℕ) (l : Listed) : Type 0 where
  pub read : Back log end l.records l.last
  pub only : (others : Listed) → Back log end others.records others.last → others ≡ l

-- a record in front of what the calls behind it give
abbrev pub and_then : LogRecord → Listed → Listed
and_then x l = record { records = x ∷ l.records; last = l.last }

-- what an answer gives, with the calls from its start back where it is a record
abbrev pub and_on : Result (Option LogRecord) Refusal → (ℕ → Listed) → Listed
and_on (Ok (Some x)) on = and_then x (on x.start)
and_on (Ok None) on = record { records = []; last = Ok tt }
and_on (Err refusal) on = record { records = []; last = Err refusal }

-- what at most n calls give, the first from an end; where they do not reach an answer that ends them, a refusal that no reading gives
unfoldable pub within_calls : List ℕ → ℕ → ℕ → Listed
within_calls log zero end = record { records = []; last = Err LengthBeyondEnd }
within_calls log (suc n) end = and_on (read_record log end) (within_calls log n)

-- what a whole reading from an end gives: a call for each octet before it and one more are enough
unfoldable pub listed : List ℕ → ℕ → Listed
listed log end = within_calls log (suc end) end

-- what counting makes of it: how many records there are, and the answer behind them
abbrev pub counted : Listed → RecordsCounted
counted l = record { count = length l.records; last = l.last }

-- what counting answers
unfoldable pub count_answer : List ℕ → ℕ → RecordsCounted
count_answer log end = counted (listed log end)

-- an answer counts what the calls give
abbrev pub CountsBack : List ℕ → ℕ → RecordsCounted → Type 0
CountsBack log end answer = (l : Listed) × WholeBack log end l × (answer ≡ counted l)
