-- Reading a log that was written by appending and has lost nothing gives its records, newest first, then "start reached".
-- Assumes nothing.
use mathlib.Core.Path.{◌≡◌, refl, ap, subst, ◌∙◌}
use mathlib.Core.List.{List, [], ◌∷◌, map}
use Prim.Native.Nat.{ℕ, suc, ◌+◌, ◌-◌}
use native.Mathlib.Omega.{arith}
use borrow.Author.Tests.{le-leb}
use lib.ListN.{length, take}
use Rattle.std.specs.Prelude.{Ok}
use Rattle.log_record.specs.Record.{Entry}
use Rattle.log_record.specs.Read.{payload_in}
use Rattle.log_record.specs.declared.LogRecord.{LogRecord}
use Rattle.log_reading.specs.Reading.{Listed, CountsBack}
use Rattle.log_reading.specs.Written.{Written, records_of, entry_in, ReadsAs, ReadsWritten}
use Rattle.log_reading.specs.Torn.{starting_from, moved, whole_records, whole_entries, answer_behind, none_torn, last_answer, rest}
use Rattle.log_reading.specs.declared.RecordsCounted.{RecordsCounted}
use Rattle.log_reading.proofs.Whole.{entry_more}
use Rattle.log_reading.proofs.Torn.{reads_torn}

-- without a loss all records are whole and stand where they stood
none_lost : (xs : List LogRecord) → map (moved 0) (starting_from 0 xs) ≡ xs
unfolding starting_from
none_lost [] = refl
none_lost (x ∷ xs) =
    let same : x.start - 0 ≡ x.start = omega arith in
    rw (le-leb 0 x.start (omega arith), same) (ap (λ (l : List LogRecord). x ∷ l) (none_lost xs))

rest_all : (es : List Entry) → rest 0 es ≡ record { records = records_of es; last = Ok tt }
unfolding whole_records last_answer answer_behind none_torn
rest_all es = ap (λ (l : List LogRecord). record { records = l; last = Ok tt }) (none_lost (records_of es))

entries_all : (es : List Entry) → whole_entries 0 es ≡ es
unfolding whole_entries whole_records starting_from records_of
entries_all [] = refl
entries_all (e ∷ es) = entry_more 0 e es (omega arith) ∙ ap (λ (l : List Entry). e ∷ l) (entries_all es)

-- all records and their entries are read
pub reads_all : (log : List ℕ) (end : ℕ) {r : RecordsCounted} → CountsBack log end r → (buffer : List ℕ) (es : List Entry)
    → Written buffer end es → take end log ≡ take end buffer → ReadsAs log end (record { records = records_of es; last = Ok tt }) es r
reads_all log end {r} counts buffer es w front =
    let none : 0 + end ≡ end = omega arith in
    subst (λ (l : Listed). ReadsAs log end l es r) (rest_all es)
    (subst (λ (whole : List Entry). ReadsAs log end (rest 0 es) whole r) (entries_all es) (reads_torn log end counts buffer es 0 (rw none w) front))

-- the octets of records are those of the entries that they were written from
payloads_of : (log : List ℕ) (xs : List LogRecord) → map (payload_in log) xs ≡ map (λ (e : Entry). e.payload) (map (entry_in log) xs)
payloads_of log [] = refl
payloads_of log (x ∷ xs) = ap (λ (l : List (List ℕ)). payload_in log x ∷ l) (payloads_of log xs)

records_as_many : (es : List Entry) → length (records_of es) ≡ length es
unfolding records_of
records_as_many [] = refl
records_as_many (e ∷ es) = ap suc (records_as_many es)

-- so it is what is promised of a written log
pub reads_written : (log : List ℕ) (end : ℕ) {r : RecordsCounted} → CountsBack log end r → ReadsWritten log end r
reads_written log end counts buffer es w front =
    let reads = reads_all log end counts buffer es w front in
    record {
      read = reads.read.read;
      payloads = payloads_of log (records_of es) ∙ ap (map (λ (e : Entry). e.payload)) reads.entries;
      count = reads.count ∙ ap (λ (n : ℕ). record { count = n; last = Ok tt }) (records_as_many es);
    }
