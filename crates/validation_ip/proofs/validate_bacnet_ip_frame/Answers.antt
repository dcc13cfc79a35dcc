-- `validation_ip::validate_bacnet_ip_frame` meets its contract: too short alone, else the findings of the tests.
-- Assumes nothing.
use mathlib.Core.Path.{refl, ◌∙◌}
use native.Mathlib.Omega.{arith}
use Rattle.std.specs.Prelude.{Some}
use Rattle.bip_header.specs.Header.{message_length}
use Rattle.findings.specs.declared.LinkType.TheVariants.{BacnetIp}
use Rattle.findings.proofs.Stored.{none, next, short_answer, stored_answer}
use Rattle.validation_ip.specs.Tests.{error_tests, warning_tests, ip_errors, ip_warnings, ip_result}
use Rattle.validation_ip.specs.Validity.{ValidAsRead}
use Rattle.validation_ip.proofs.Validity.{valid_as_read}
use Rattle.validation_ip.proofs.validate_bacnet_ip_frame.Goals as goal

pub returns-in_default : goal.returns-in_default
unfolding ip_result ip_errors ip_warnings
returns-in_default c =
    let s = c.args.message.now in
    let all = short_answer (Some BacnetIp) _ 4 (error_tests s) (warning_tests s) (ValidAsRead s) (valid_as_read s) c.in_default.len_below c.too_short.ensures in
    record { value = all.0; read = all.1 }

pub returns : goal.returns
unfolding ip_result ip_errors ip_warnings error_tests warning_tests message_length
returns c =
    let s = c.args.message.now in
    let declared = c.from-declared.ensures ∙ c.from_be_bytes.ensures in
    let a = rw (c.from.ensures, c.from-2.ensures) at c.add_if.ensures in
    let b = rw declared at c.add_if-3.ensures in
    let d = rw c.changes_table.ensures at c.add_if-6.ensures in
    let all = stored_answer (Some BacnetIp) _ 4 (error_tests s) (warning_tests s) (ValidAsRead s) (valid_as_read s) c.in-len4-up.len_at_least
    (next _ (next _ (next _ (next _ (none c.new-errors.ensures) a refl) c.add_if-2.ensures refl) b refl) c.add_if-4.ensures refl)
    (omega arith)
    (next _ (next _ (none c.new-warnings.ensures) c.add_if-5.ensures refl) d refl)
    (omega arith) c.len.ensures.value refl in
    record { value = all.0; read = all.1 }
