-- The records of a log one by one, back from an end.
-- Assumes nothing.
use Rattle.std.specs.Prelude.{ℕ, ◌≡◌, List, Option, Some, None, Result, Ok, Err}
use Rattle.octets.specs.declared.refusal.Refusal.{Refusal}
use Rattle.log_record.specs.Read.{read_record}
use Rattle.log_record.specs.declared.LogRecord.{LogRecord}

-- what comes next from an end is what is read there; it goes on from a record's start, from 0 behind a refusal, and from the same end where
-- nothing comes
abbrev pub NextBack : List ℕ → ℕ → Option (Result LogRecord Refusal) → ℕ → Type 0
NextBack log end None next = (read_record log end ≡ Ok None) × (next ≡ end)
NextBack log end (Some (Ok x)) next = (read_record log end ≡ Ok (Some x)) × (next ≡ x.start)
NextBack log end (Some (Err refusal)) next = (read_record log end ≡ Err refusal) × (next ≡ 0)
