-- `validation_mstp::validate_mstp_frame` meets its contract: too short alone, else the findings of the tests.
-- Assumes nothing.
use mathlib.Core.Path.{refl}
use native.Mathlib.Omega.{arith}
use Rattle.std.specs.Prelude.{Some}
use Rattle.findings.specs.declared.LinkType.TheVariants.{MsTP}
use Rattle.findings.proofs.Stored.{none, next, short_answer, stored_answer}
use Rattle.validation_mstp.specs.Tests.{error_tests, warning_tests, mstp_errors, mstp_warnings, mstp_result}
use Rattle.validation_mstp.specs.Validity.{ValidAsRead}
use Rattle.validation_mstp.proofs.Validity.{valid_as_read}
use Rattle.validation_mstp.proofs.validate_mstp_frame.Goals as goal

pub returns-then-size-lt-MSTP_HEADER_SIZE : goal.returns-then-size-lt-MSTP_HEADER_SIZE
unfolding mstp_result mstp_errors mstp_warnings
returns-then-size-lt-MSTP_HEADER_SIZE c =
    let a = c.args in
    let s = a.frame.now in
    let all = short_answer (Some MsTP) _ 8 (error_tests a.rule s) (warning_tests a.rule s) (ValidAsRead a.rule s)
    (valid_as_read a.rule s (λ i. (c.type_inv.frame i).fits)) c.if-size-lt-MSTP_HEADER_SIZE.true c.too_short.ensures in
    record { value = all.0; read = all.1 }

pub returns : goal.returns
unfolding mstp_result mstp_errors mstp_warnings error_tests warning_tests
returns c =
    let a = c.args in
    let s = a.frame.now in
    let preamble = rw c.preamble-preamble.ensures at c.add_if.ensures in
    let type = rw (c.is_reserved.ensures, c.frame_type-frame_type.ensures) at c.add_if-2.ensures in
    let source = rw c.source-source.ensures at c.add_if-3.ensures in
    let length = rw (c.from.ensures, c.data_length-data_length.ensures) at c.add_if-4.ensures in
    let check = rw (c.from-2.ensures, c.from-3.ensures, c.header_check_sent-received.ensures, c.header_crc-calculated.ensures.value, c.fields_part.ensures) at c.add_if-5.ensures in
    let size = rw (c.frame_size-declared.ensures.value, c.data_length-data_length.ensures) at c.add_if-6.ensures in
    let proprietary = rw c.frame_type-frame_type.ensures at c.add_if-7.ensures in
    let slave = rw (c.master_to_slave.ensures, c.frame_type-frame_type.ensures, c.destination.ensures, c.source-source.ensures) at c.add_if-8.ensures in
    let all = stored_answer (Some MsTP) _ 8 (error_tests a.rule s) (warning_tests a.rule s) (ValidAsRead a.rule s)
    (valid_as_read a.rule s (λ i. (c.type_inv.frame i).fits)) c.if-size-lt-MSTP_HEADER_SIZE.false
    (next _
    (next _ (next _ (next _ (next _ (next _ (next _ (none c.new-errors.ensures) preamble refl) type refl) source refl) length refl) check refl) size refl)
    c.add.ensures c.data_check_error.ensures)
    (omega arith) (next _ (next _ (none c.new-warnings.ensures) proprietary refl) slave refl) (omega arith) c.len.ensures.value refl in
    record { value = all.0; read = all.1 }
