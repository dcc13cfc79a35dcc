-- The kinds of records and their numbers.
-- Assumes nothing.
use Rattle.std.specs.Prelude.{ℕ, Bool, cond, [], ◌∷◌, eqb, Result}
use Rattle.octets.specs.Question.{ask, first_no}
use Rattle.octets.specs.Range.{within}
use Rattle.octets.specs.Refusal.{result_of}
use Rattle.octets.specs.declared.refusal.Refusal.{Refusal}
use Rattle.log_record.specs.declared.kind.RecordKind.{RecordKind}
use Rattle.log_record.specs.declared.kind.RecordKind.TheVariants.{Bus, Ip, Ethernet}

-- the number of a kind
abbrev pub kind_number : RecordKind → ℕ
kind_number Bus = 1
kind_number Ip = 2
kind_number Ethernet = 3

-- the kind with a number; Ethernet where none has it
abbrev pub kind_numbered : ℕ → RecordKind
kind_numbered n = cond (eqb n 1) Bus (cond (eqb n 2) Ip Ethernet)

-- the numbers of kinds
abbrev pub known_kind : ℕ → Bool
known_kind = within 1 3

-- question 42 asked of a number: its kind, or the refusal
unfoldable pub kind_answer : ℕ → Result RecordKind Refusal
kind_answer n = result_of (first_no (ask 42 (known_kind n) ∷ [])) (kind_numbered n)
