-- What a call of `next` gave, by what is read at the end from which it was called.
-- Assumes nothing.
use mathlib.Core.Path.{◌≡◌, subst}
use mathlib.Core.List.{List}
use Prim.Native.Nat.{ℕ}
use Rattle.std.specs.Prelude.{Option, Some, None, Result, Ok, Err}
use Rattle.octets.specs.declared.refusal.Refusal.{Refusal}
use Rattle.log_record.specs.Read.{read_record}
use Rattle.log_record.specs.declared.LogRecord.{LogRecord}
use Rattle.log_reading.specs.Records.{NextBack}

module _ {own log : List ℕ} (at next : ℕ) {answer : Option (Result LogRecord Refusal)} (same : own ≡ log) (step : NextBack own at answer next) where
  here : {a : Option (Result LogRecord Refusal)} → answer ≡ a → NextBack log at a next
  here {a} is =
      subst (λ (l : List ℕ). NextBack l at a next) same (subst (λ (b : Option (Result LogRecord Refusal)). NextBack own at b next) is step)

  pub record_next : {x : LogRecord} → answer ≡ Some (Ok x) → (read_record log at ≡ Ok (Some x)) × (next ≡ x.start)
  record_next is = here is

  pub refusal_next : {e : Refusal} → answer ≡ Some (Err e) → read_record log at ≡ Err e
  refusal_next is = (here is).0

  pub none_next : answer ≡ None → read_record log at ≡ Ok None
  none_next is = (here is).0
