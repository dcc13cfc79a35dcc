-- `log_reading::count_records` meets its contract: each turn counts the next record, and the next call is from its start.
-- Assumes nothing.
use mathlib.Core.Path.{◌≡◌, refl, sym, ap, subst, ◌∙◌}
use mathlib.Core.List.{List}
use Prim.Native.Nat.{ℕ, ◌+◌}
use native.Mathlib.Omega.{arith}
use Rattle.std.specs.Prelude.{Some, Ok}
use Rattle.log_record.specs.Read.{read_record}
use Rattle.log_reading.specs.Reading.{count_answer, CountsBack}
use Rattle.log_reading.specs.Written.{ReadsWritten}
use Rattle.log_reading.specs.Torn.{ReadsTorn}
use Rattle.log_reading.specs.Example.{Example}
use Rattle.log_reading.specs.Cuts.{cuts, ReadsCuts}
use Rattle.log_reading.specs.declared.RecordsCounted.{RecordsCounted}
use Rattle.log_reading.proofs.Back.{record_next, refusal_next, none_next}
use Rattle.log_reading.proofs.Reading.{Past, past_start, past_next, past_last, starts_before, counts_back}
use Rattle.log_reading.proofs.Torn.{reads_torn}
use Rattle.log_reading.proofs.Written.{reads_written}
use Rattle.log_reading.proofs.Examples.{example}
use Rattle.log_reading.proofs.Cuts.{cuts_read}
use Rattle.log_reading.proofs.count_records.Goals.{In-Ok}
use Rattle.log_reading.proofs.count_records.Goals as goal

-- what the contract promises
abbrev Promised : List ℕ → ℕ → RecordsCounted → Type 0
Promised log end r = (r ≡ count_answer log end) × (CountsBack log end r × (ReadsWritten log end r × (ReadsTorn log end r × (Example × ReadsCuts cuts))))

promised : (log : List ℕ) (end : ℕ) {r : RecordsCounted} → r ≡ count_answer log end → Promised log end r
promised log end counted =
    let counts = counts_back log end counted in
    (counted, (counts, (reads_written _ _ counts, (reads_torn _ _ counts, (example, cuts_read)))))

-- the record that was read
read : (c : In-Ok) → (read_record c.args.log.now c.loop-record.record-iterator.end ≡ Ok (Some c.in-Ok.field-0)) × (c.next.new.self.end ≡ c.in-Ok.field-0.start)
read c = record_next _ _ c.loop-record.invariant.2 c.next.ensures.steps.1 (c.in-Some.is ∙ ap Some c.in-Ok.is)

pub loop-record-init : goal.loop-record-init
loop-record-init c =
    let made = c.into_iter-record-iterator.ensures.into_iter_gives in
    let items = c.records_back-record-items.ensures in
    rw made (tt, tt, items.from, rw items.end (past_start _ _))

pub overflow_add-count : goal.overflow_add-count
overflow_add-count c =
    let r = read (goal.at.overflow_add-count c).In-Ok in
    let p = c.loop-record.invariant.3 in
    let s = starts_before _ _ r.0 in
    omega (arith, p.few)

pub loop-record-preserved : goal.loop-record-preserved
loop-record-preserved c =
    let r = read (goal.at.loop-record-preserved c).In-Ok in (
      tt,
      tt,
      c.next.ensures.steps.0 ∙ c.loop-record.invariant.2,
      subst (λ (at : ℕ). Past c.args.log.now c.args.end (c.loop-record.count + 1) at) (sym r.1) (past_next _ _ _ _ r.0 c.loop-record.invariant.3),
    )

pub returns-in-Err : goal.returns-in-Err
returns-in-Err c =
    let e = refusal_next _ _ c.loop-record.invariant.2 c.next.ensures.steps.1 (c.in-Some.is ∙ ap Some c.in-Err.is) in
    let all = promised _ _ (past_last _ _ _ _ e refl c.loop-record.invariant.3) in
    record { value = all.0; calls = all.1.0; written = all.1.1.0; torn = all.1.1.1.0; example = all.1.1.1.1.0; cuts = all.1.1.1.1.1 }

pub returns : goal.returns
returns c =
    let e = none_next _ _ c.loop-record.invariant.2 c.next.ensures.steps.1 c.in-None.is in
    let all = promised _ _ (past_last _ _ _ _ e refl c.loop-record.invariant.3) in
    record { value = all.0; calls = all.1.0; written = all.1.1.0; torn = all.1.1.1.0; example = all.1.1.1.1.0; cuts = all.1.1.1.1.1 }
