-- `log_append::append` meets its contract: four questions, then the record behind the used octets.
-- Assumes nothing.
use mathlib.Core.Path.{◌≡◌, sym, ap, subst, ◌∙◌}
use mathlib.Core.Bool.{true}
use Prim.Native.Nat.{ℕ}
use native.Mathlib.Omega.{arith}
use Rattle.std.specs.Prelude.{Result, Ok, Err}
use Rattle.std.proofs.lemmas.Result.{err_from_is_err_and}
use Rattle.octets.specs.Refusal.{refused}
use Rattle.octets.specs.declared.refusal.Refusal.{Refusal}
use Rattle.log_record.specs.Kind.{kind_number, known_kind}
use Rattle.log_record.specs.declared.kind.RecordKind.{RecordKind}
use Rattle.log_record.proofs.KindNumbers.{number_back, kind_read, no_kind_read}
use Rattle.log_append.specs.Append.{ReadsBack}
use Rattle.log_append.proofs.Appends.{beyond, no_kind, no_size, no_room, all_written}
use Rattle.log_append.proofs.append.Goals.{After-try_from, After-time_size}
use Rattle.log_append.proofs.append.Goals as goal

pub returns-then-buffer-used : goal.returns-then-buffer-used
returns-then-buffer-used c =
    let a = c.args in
    let all = beyond a.buffer.now a.used a.kind a.time a.payload.now c.if-buffer-used.true in
    record { value = all.0; output = all.1.0; back = all.1.1 }

-- the kind has the number that was passed
known : (c : After-try_from) {kind : RecordKind} → c.try_from.result ≡ Ok kind → (known_kind c.args.kind ≡ true) × (kind_number kind ≡ c.args.kind)
known c ok =
    let k = kind_read _ c.try_from.ensures ok in (k.0, ap kind_number k.1 ∙ number_back _ k.0)

pub returns-in_err-kind : goal.returns-in_err-kind
returns-in_err-kind c =
    let p = err_from_is_err_and c.from_residual.result c.from_residual.ensures.1 in
    let none = no_kind_read _ c.try_from.ensures c.in_err-kind.was in
    let a = c.args in
    let all = no_kind a.buffer.now a.used a.kind a.time a.payload.now c.if-buffer-used.false none.0 in
    let same : c.from_residual.result ≡ refused 42 = p.1 ∙ ap Err (p.2 ∙ none.1) in
    record {
      value = same ∙ all.0;
      output = all.1.0;
      back = subst (λ (r : Result ℕ Refusal). ReadsBack a.buffer.now a.used a.kind a.time a.payload.now a.buffer.now r) (sym same) all.1.1;
    }

pub returns-then-not-allowed_size : goal.returns-then-not-allowed_size
returns-then-not-allowed_size c =
    let all = no_size _ _ _ _ _ c.if-buffer-used.false (known (goal.at.returns-then-not-allowed_size c).After-try_from c.in_ok-kind.was).0 c.allowed_size.ensures (c.if-not-allowed_size.true) in
    record { value = all.0; output = all.1.0; back = all.1.1 }

pub returns-then-buffer-used-2 : goal.returns-then-buffer-used-2
returns-then-buffer-used-2 c =
    let all = no_room _ _ _ _ _ c.if-buffer-used.false (known (goal.at.returns-then-buffer-used-2 c).After-try_from c.in_ok-kind.was).0 c.allowed_size.ensures (c.if-not-allowed_size.false)
    (omega (arith, c.time_size.ensures, c.if-buffer-used-2.true)) in
    record { value = all.0; output = all.1.0; back = all.1.1 }

pub returns : goal.returns
returns c =
    let all = all_written _ _ _ _ _ c.if-buffer-used.false (known (goal.at.returns c).After-try_from c.in_ok-kind.was).0 c.allowed_size.ensures (c.if-not-allowed_size.false)
    (omega (arith, c.time_size.ensures, c.if-buffer-used-2.false))
    (rw (known (goal.at.returns c).After-try_from c.in_ok-kind.was).1 at c.put_record.ensures) in
    record { value = all.0; output = all.1.0; back = all.1.1 }
