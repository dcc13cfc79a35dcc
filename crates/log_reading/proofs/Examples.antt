-- The example of a written log: the calls' answers are computed, and its reading is what is promised of every written log.
-- Assumes nothing.
use mathlib.Core.Path.{◌≡◌, refl}
use mathlib.Core.List.{List, []}
use Prim.Native.Nat.{ℕ}
use lib.ListN.{take}
use Rattle.std.specs.Prelude.{Result, Ok, Err}
use Rattle.octets.specs.Output.{at_front, write_output}
use Rattle.octets.specs.Question.{first_no, answered}
use Rattle.octets.specs.Range.{within}
use Rattle.octets.specs.declared.refusal.Refusal.{Refusal}
use Rattle.octets.specs.declared.refusal.Refusal.TheVariants.{RecordKind}
use Rattle.log_record.specs.Record.{Entry, time_octets, kind_octet, record_octets}
use Rattle.log_append.specs.Append.{append_questions, append_question, append_answer, append_output}
use Rattle.log_reading.specs.Written.{Written, log_of, records_of}
use Rattle.log_reading.specs.Written.Written.{empty, taken, refused}
use Rattle.log_reading.specs.Example.{Further, Writes, bus, ip, ethernet, unknown, entries, before, behind, Example}
use Rattle.log_reading.proofs.Reading.{counts_back}
use Rattle.log_reading.proofs.Written.{reads_written}

writes : Writes
writes = record {
  unused = λ buffer. empty;
  further = λ {buffer} {used} {es} w e. by w e (append_answer buffer used e.kind e.time e.payload) refl;
}
  where
    by : {buffer : List ℕ} {used : ℕ} {es : List Entry} → Written buffer used es → (e : Entry) (a : Result ℕ Refusal)
        → append_answer buffer used e.kind e.time e.payload ≡ a → Further (append_output buffer used e.kind e.time e.payload) used es e a
    by w e (Ok n) answer = taken w e answer
    by w e (Err q) answer = refused w e answer

pub written : Written behind 23 entries
unfolding record_octets time_octets kind_octet append_questions append_question append_answer append_output write_output at_front first_no answered within
written =
    let none : Written before 0 [] = empty in
    taken (refused {refusal = RecordKind} (taken {n = 13} (taken {n = 4} none bus refl) ip refl) unknown refl) ethernet refl

pub example : Example
unfolding log_of records_of record_octets time_octets kind_octet
example =
    let gives = reads_written (take 23 behind) 23 (counts_back (take 23 behind) 23 refl) behind entries written refl in
    record { writes = writes; written = written; read = gives.read; payloads = gives.payloads; count = gives.count }
