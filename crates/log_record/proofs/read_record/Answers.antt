-- `log_record::read_record` meets its contract: end 0 is the start, and behind it a record is read exactly where one ends.
-- Assumes nothing.
use mathlib.Core.Path.{◌≡◌}
use native.Mathlib.Omega.{arith}
use Rattle.std.proofs.lemmas.Result.{err_from_is_err_and}
use Rattle.log_record.specs.Read.{read_record, read_before}
use Rattle.log_record.proofs.Read.{at_start, record_read, none_read}
use Rattle.log_record.proofs.Ends.{what_ends}
use Rattle.log_record.proofs.Same.{front_read}
use Rattle.log_record.proofs.read_record.Goals.{After-last_record}
use Rattle.log_record.proofs.read_record.Goals as goal

-- the octets before the end read as the log does
front : (c : After-last_record) → c.last_record.result ≡ read_before c.args.log.now c.args.end
front c = let k = c.in-Some.ensures.lookup.0 in front_read _ _ _ k.1 k.2 c.last_record.ensures

pub returns-then-end-eq0 : goal.returns-then-end-eq0
returns-then-end-eq0 c =
    let all = what_ends _ (λ i. (c.type_inv.log i).fits) _ (at_start _ (omega (arith, c.if-end-eq0.true))) in
    record { value = all.0; ends = all.1 }

pub returns-in_err-last_record : goal.returns-in_err-last_record
returns-in_err-last_record c =
    let p = err_from_is_err_and c.from_residual.result c.from_residual.ensures.1 in
    let refused : c.from_residual.result ≡ read_record c.args.log.now c.args.end
    = rw (p.1, p.2) (none_read _ _ (omega arith) c.in-Some.ensures.lookup.0.1 (front (goal.at.returns-in_err-last_record c).After-last_record) c.in_err-last_record.was) in
    let all = what_ends _ (λ i. (c.type_inv.log i).fits) _ refused in
    record { value = all.0; ends = all.1 }

pub returns : goal.returns
returns c =
    let all = what_ends _ (λ i. (c.type_inv.log i).fits) _ (record_read _ _ (omega arith) c.in-Some.ensures.lookup.0.1 (front (goal.at.returns c).After-last_record) c.in_ok-last_record.was) in
    record { value = all.0; ends = all.1 }
