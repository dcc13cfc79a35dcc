-- What counts as a written log, and one that was written by four calls of `append`, one of them refused, with its reading.
-- Assumes nothing.
use Rattle.std.specs.Prelude.{ℕ, ◌≡◌, List, [], ◌∷◌, map, replicate, take, Some, None, Result, Ok, Err}
use Rattle.octets.specs.declared.refusal.Refusal.{Refusal}
use Rattle.log_record.specs.Record.{Entry}
use Rattle.log_record.specs.Read.{log_record, payload_in}
use Rattle.log_record.specs.declared.LogRecord.{LogRecord}
use Rattle.log_append.specs.Append.{append_answer, append_output}
use Rattle.log_reading.specs.Reading.{Back, count_answer}
use Rattle.log_reading.specs.Written.{Written}

-- what a call with an entry leaves is a written log again: with the entry if the call took it, and else with those before it
abbrev pub Further : List ℕ → ℕ → List Entry → Entry → Result ℕ Refusal → Type 0
Further after used es e (Ok n) = Written after n (e ∷ es)
Further after used es e (Err refusal) = Written after used es

-- every buffer that has no used octets counts as written, and so does what any call leaves of one that does
pub record Writes : Type 0 where
  pub unused : (buffer : List ℕ) → Written buffer 0 []
  pub further : {buffer : List ℕ} {used : ℕ} {es : List Entry} → Written buffer used es → (e : Entry)
      → Further (append_output buffer used e.kind e.time e.payload) used es e (append_answer buffer used e.kind e.time e.payload)

-- a bus record without a time, an IP record of second 0, an Ethernet record of a late second, and one of a kind that there isn't
abbrev pub bus : Entry
bus = record { kind = 1; time = None; payload = 0x55 ∷ [] }

abbrev pub ip : Entry
ip = record { kind = 2; time = Some 0; payload = 0x81 ∷ 0x0B ∷ [] }

abbrev pub ethernet : Entry
ethernet = record { kind = 3; time = Some 0xFEDCBA98; payload = 0x00 ∷ 0x10 ∷ 0x20 ∷ [] }

abbrev pub unknown : Entry
unknown = record { kind = 0x0B; time = None; payload = 0x55 ∷ [] }

-- those that are taken, newest first
abbrev pub entries : List Entry
entries = ethernet ∷ ip ∷ bus ∷ []

-- a buffer, with what stood in it before
abbrev pub before : List ℕ
before = replicate 25 0xEE

-- it after the calls: three records, and two octets as before
abbrev pub behind : List ℕ
behind =
    0x55 ∷ 1 ∷ 0 ∷ 1
    ∷ 0x81 ∷ 0x0B ∷ 0 ∷ 0 ∷ 0 ∷ 0 ∷ 0x0C ∷ 0 ∷ 2
    ∷ 0x00 ∷ 0x10 ∷ 0x20 ∷ 0xFE ∷ 0xDC ∷ 0xBA ∷ 0x98 ∷ 0x0D ∷ 0 ∷ 3
    ∷ 0xEE ∷ 0xEE ∷ []

-- its records, newest first
abbrev pub records : List LogRecord
records = log_record 3 (Some 0xFEDCBA98) 13 3 ∷ log_record 2 (Some 0) 4 2 ∷ log_record 1 None 0 1 ∷ []

-- each of them from its place
abbrev pub bus_at : ℕ → LogRecord
bus_at i = log_record 1 None i 1

abbrev pub ip_at : ℕ → LogRecord
ip_at i = log_record 2 (Some 0) i 2

abbrev pub ethernet_at : ℕ → LogRecord
ethernet_at i = log_record 3 (Some 0xFEDCBA98) i 3

-- what was written, and what the log itself, without the rest of the buffer, reads back to
pub record Example : Type 0 where
  pub writes : Writes
  pub written : Written behind 23 (ethernet ∷ ip ∷ bus ∷ [])
  pub read : Back (take 23 behind) 23 records (Ok tt)
  pub payloads : map (payload_in (take 23 behind)) records ≡ ethernet.payload ∷ ip.payload ∷ bus.payload ∷ []
  pub count : count_answer (take 23 behind) 23 ≡ record { count = 3; last = Ok tt }
