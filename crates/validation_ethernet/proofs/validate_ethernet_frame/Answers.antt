-- `validation_ethernet::validate_ethernet_frame` meets its contract: too short alone, else the findings of the tests.
-- Assumes nothing.
use mathlib.Core.Path.{◌≡◌, refl, ap, ◌∙◌}
use native.Mathlib.Omega.{arith}
use Rattle.std.specs.Prelude.{Some}
use Rattle.ethernet_decode.specs.Decode.{field_of}
use Rattle.findings.specs.declared.LinkType.TheVariants.{Ethernet}
use Rattle.findings.proofs.Stored.{none, next, short_answer, stored_answer}
use Rattle.validation_ethernet.specs.Tests.{llc, multicast, error_tests, warning_tests, ethernet_errors, ethernet_warnings, ethernet_result}
use Rattle.validation_ethernet.specs.Validity.{AgreesWithEthernet}
use Rattle.validation_ethernet.proofs.Parts.{six}
use Rattle.validation_ethernet.proofs.Validity.{agrees_with_ethernet}
use Rattle.validation_ethernet.proofs.validate_ethernet_frame.Goals as goal

pub returns-in_default : goal.returns-in_default
unfolding ethernet_result ethernet_errors ethernet_warnings
returns-in_default c =
    let s = c.args.frame.now in
    let all = short_answer (Some Ethernet) _ 17 (error_tests s) (warning_tests s) (AgreesWithEthernet s)
    (agrees_with_ethernet s (λ i. (c.type_inv.frame i).fits)) c.in_default.len_below c.too_short.ensures in
    record { value = all.0; agrees = all.1 }

pub returns : goal.returns
unfolding ethernet_result ethernet_errors ethernet_warnings error_tests warning_tests field_of llc
returns c =
    let s = c.args.frame.now in
    let destination = c.is_multicast.ensures ∙ ap multicast (six s (omega (arith, c.in-len17-up.len_at_least))) in
    let header : c.from_be_bytes-llc.result ≡ llc s = omega (arith, c.from_be_bytes-llc.ensures) in
    let d = rw destination at c.add_if-4.ensures in
    let all = stored_answer (Some Ethernet) _ 17 (error_tests s) (warning_tests s) (AgreesWithEthernet s)
    (agrees_with_ethernet s (λ i. (c.type_inv.frame i).fits)) c.in-len17-up.len_at_least
    (next _
    (next _ (next _ (none c.new-errors.ensures) c.add_if.ensures refl) c.add_if-2.ensures (rw c.from_be_bytes-ether_type.ensures))
    c.add_if-3.ensures (rw header))
    (omega arith)
    (next _ (next _ (none c.new-warnings.ensures) d refl) c.add_if-5.ensures refl)
    (omega arith) c.len.ensures.value refl in
    record { value = all.0; agrees = all.1 }
