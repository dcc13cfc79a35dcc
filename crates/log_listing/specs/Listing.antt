-- The text that is printed for a log.
-- Assumes nothing.
use Rattle.std.specs.Prelude.{ℕ, ◌+◌, ◌≡◌, Bool, cond, eqb, leb, length, take, drop, Option, Some, None, Ok, Err}
use mathlib.Core.List.{List, [], ◌∷◌, ◌++◌, flat_map}
use Rattle.octets.specs.Refusal.{refusal_number}
use Rattle.text.specs.Text.{letters, texts, field}
use Rattle.crc.specs.declared.CheckRule.TheVariants.{AnnexG}
use Rattle.validation_mstp.specs.Tests.{mstp_result}
use Rattle.validation_ip.specs.Tests.{ip_result}
use Rattle.validation_ethernet.specs.Tests.{ethernet_result}
use Rattle.run_finder.specs.Reading.{reading}
use Rattle.log_record.specs.declared.LogRecord.{LogRecord}
use Rattle.log_record.specs.Kind.{kind_number}
use Rattle.log_record.specs.Record.{Entry}
use Rattle.log_record.specs.Read.{payload_in}
use Rattle.log_reading.specs.Reading.{Last, Listed, listed}
use Rattle.log_reading.specs.Written.{Written}
use Rattle.log_reading.specs.Torn.{whole_entries, last_answer}

-- the validator of a record's kind is content
unfoldable pub valid : ℕ → List ℕ → Bool
valid kind payload =
    cond (eqb kind 1) (mstp_result AnnexG payload).is_valid
    (cond (eqb kind 2) (ip_result payload).is_valid (ethernet_result payload).is_valid)

-- the frames that a whole reading of a bus record finds; 0 for the other kinds
unfoldable pub frames : ℕ → List ℕ → ℕ
frames kind payload = cond (eqb kind 1) (length (reading AnnexG payload)) 0

-- the field of a time: the second, or `-`
unfoldable pub time_field : Option ℕ → List ℕ
time_field (Some s) = field s
time_field None = letters " -"

-- a line: `record`, four numbers and a time
unfoldable pub line : ℕ → ℕ → ℕ → ℕ → Option ℕ → List ℕ
line k l v f time = texts (letters "record" ∷ field k ∷ field l ∷ field v ∷ field f ∷ time_field time ∷ letters "\n" ∷ [])

-- a record's line: kind, length, 1 if valid else 0, frames, when it was made
unfoldable pub record_line : ℕ → Option ℕ → List ℕ → List ℕ
record_line kind time payload = line kind (length payload) (cond (valid kind payload) 1 0) (frames kind payload) time

-- the last line: `end`, or `stopped` and the question number
abbrev pub last_line : Last → List ℕ
last_line (Ok done) = letters "end\n"
last_line (Err refusal) = texts (letters "stopped" ∷ field (refusal_number refusal) ∷ letters "\n" ∷ [])

-- the line of a record of a log
abbrev pub line_of : List ℕ → LogRecord → List ℕ
line_of log x = record_line (kind_number x.kind) x.time (payload_in log x)

-- the lines of a whole reading
unfoldable pub lines : List ℕ → Listed → List ℕ
lines log l = flat_map (line_of log) l.records ++ last_line l.last

-- those of the whole reading back from its end
abbrev pub log_lines : List ℕ → List ℕ
log_lines log = lines log (listed log (length log))

-- a log of at most 65,536 octets is read
abbrev pub is_read : List ℕ → Bool
is_read log = leb (length log) 65536

-- some lines, or `long` alone for a log that is not read
abbrev pub if_read : List ℕ → List ℕ → List ℕ
if_read log text = cond (is_read log) text (letters "long\n")

-- the text of a log
unfoldable pub listing : List ℕ → List ℕ
listing log = if_read log (log_lines log)

-- the line of an entry
abbrev pub entry_line : Entry → List ℕ
entry_line e = record_line e.kind e.time e.payload

-- the text of a log whose octets were written by appending: if it is read, the lines of the entries, newest first, then `end`
abbrev pub ListsWritten : List ℕ → Type 0
ListsWritten log =
    (buffer : List ℕ) (es : List Entry) → Written buffer (length log) es → log ≡ take (length log) buffer
    → listing log ≡ if_read log (flat_map (λ (e : Entry). record_line e.kind e.time e.payload) es ++ letters "end\n")

-- where it has lost octets at its front: the lines of the records that are still whole, then the line of the answer behind them
abbrev pub ListsTorn : List ℕ → Type 0
ListsTorn log =
    (buffer : List ℕ) (es : List Entry) (lost : ℕ) → Written buffer (lost + length log) es → log ≡ take (length log) (drop lost buffer)
    → listing log ≡ if_read log (flat_map entry_line (whole_entries lost es) ++ last_line (last_answer lost es))
