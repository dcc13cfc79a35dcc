-- `log_record::last_record` meets its contract: a law for each return.
-- Assumes nothing.
use mathlib.Core.Path.{◌≡◌, sym, ap, ap₂, ◌∙◌}
use Prim.Native.Nat.{ℕ, ◌+◌, ◌-◌}
use native.Mathlib.Omega.{arith}
use lib.ListN.{length, get_or}
use Rattle.std.specs.Prelude.{Ok}
use Rattle.std.proofs.lemmas.Result.{err_from_is_err_and}
use Rattle.log_record.specs.declared.kind.RecordKind.{RecordKind}
use Rattle.log_record.specs.Record.{time_octets}
use Rattle.log_record.specs.Read.{timed, kind_of, octet_before, length_before, time_before}
use Rattle.log_record.proofs.KindNumbers.{kind_read, no_kind_read}
use Rattle.log_record.proofs.KindOctet.{kind_timed, kind_plain, four_octets, no_octet}
use Rattle.log_record.proofs.Read.{no_kind, no_size, no_octets, reads}
use Rattle.log_record.proofs.Behind.{octet_is, length_is, time_is}
use Rattle.log_record.proofs.last_record.Goals.{After-try_from, After-allowed_size, then-timed, else-timed}
use Rattle.log_record.proofs.last_record.Goals as goal

-- the number of the kind that the octet stands for, and how many octets the time has
number_there : (c : After-try_from) → (c.if-timed.number.0 ≡ kind_of (octet_before c.args.log.now (length c.args.log.now)))
    × (c.if-timed.number.1 ≡ length (time_octets (time_before c.args.log.now (length c.args.log.now))))
number_there c =
    let log = c.args.log.now in
    let k = c.in-Some.ensures.cases in
    let same : get_or c.in-Some.field-0-1.now 0 0 ≡ octet_before log (length log) = octet_is log _ _ k.0 k.1 k.2 in
    let asked : c.timed.result ≡ timed (octet_before log (length log)) = c.timed.ensures ∙ ap timed same in
    elim c.if-timed.branch [
      | then-timed w ↦ (ap (λ (p : ℕ × ℕ). p.0) w.number-is ∙ kind_timed _ c.timed.ensures w.if-timed.true ∙ ap kind_of same, ap (λ (p : ℕ × ℕ). p.1) w.number-is ∙ sym (four_octets log _ asked w.if-timed.true))
      | else-timed w ↦ (ap (λ (p : ℕ × ℕ). p.0) w.number-is ∙ kind_plain _ c.timed.ensures w.if-timed.false ∙ ap kind_of same, ap (λ (p : ℕ × ℕ). p.1) w.number-is ∙ sym (no_octet log _ asked w.if-timed.false))
    ]

-- question 43 of the length in the trailer
size : (c : After-allowed_size) → c.from-length.result ≡ length_before c.args.log.now (length c.args.log.now)
size c =
    let k = c.in-Some.ensures.cases in
    c.from-length.ensures ∙ c.number.ensures ∙ length_is c.args.log.now _ _ k.0 k.1 k.2

pub returns-in_err-kind : goal.returns-in_err-kind
returns-in_err-kind c =
    let p = err_from_is_err_and c.from_residual.result c.from_residual.ensures.1 in
    let s = goal.at.returns-in_err-kind c in
    let none = no_kind_read _ c.try_from.ensures c.in_err-kind.was in
    rw (p.1, p.2, none.1) (no_kind _ _ (omega (arith, c.in-Some.ensures.cases.2)) (number_there s.After-try_from).0 none.0)

pub returns-then-not-allowed_size : goal.returns-then-not-allowed_size
returns-then-not-allowed_size c =
    let s = goal.at.returns-then-not-allowed_size c in
    no_size _ _ (omega (arith, c.in-Some.ensures.cases.2)) (number_there s.After-try_from).0 (kind_read _ c.try_from.ensures c.in_ok-kind.was).0 (size s.After-allowed_size) c.allowed_size.ensures c.if-not-allowed_size.true

pub returns-in_default-checked_sub : goal.returns-in_default-checked_sub
returns-in_default-checked_sub c =
    let s = goal.at.returns-in_default-checked_sub c in
    let over = c.in_default-checked_sub.ensures in
    no_octets _ _ (omega (arith, c.in-Some.ensures.cases.2)) (number_there s.After-try_from).0 (kind_read _ c.try_from.ensures c.in_ok-kind.was).0 (size s.After-allowed_size) c.allowed_size.ensures c.if-not-allowed_size.false
    (number_there s.After-try_from).1
    (omega (arith, c.in-Some.ensures.cases.2, over))

pub returns : goal.returns
returns c =
    let s = goal.at.returns c in
    let k = c.in-Some.ensures.cases in
    let n = c.from-length.result in
    let t = c.if-timed.number.1 in
    let fits = c.in-Some-checked_sub.ensures in
    let start : c.in-Some-checked_sub.start ≡ length c.args.log.now - (n + (t + 3)) = omega (arith, k.2) in
    ap₂ (λ (k : RecordKind) (i : ℕ). Ok (record { kind = k; time = c.time_of-time.result; start = i; length = n })) (kind_read _ c.try_from.ensures c.in_ok-kind.was).1 start
    ∙ reads _ _ (omega (arith, k.2)) (number_there s.After-try_from).0 (kind_read _ c.try_from.ensures c.in_ok-kind.was).0 (size s.After-allowed_size) c.allowed_size.ensures c.if-not-allowed_size.false (number_there s.After-try_from).1
    (c.time_of-time.ensures ∙ time_is c.args.log.now _ _ k.0 k.1 k.2 _ t (number_there s.After-try_from).1 (omega arith))
    (omega (arith, k.2))
