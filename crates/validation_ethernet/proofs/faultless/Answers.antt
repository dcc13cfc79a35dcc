-- `validation_ethernet::faultless` meets its contract: the tests are those of the definition.
-- Assumes nothing.
use native.Mathlib.Omega.{arith}
use Rattle.std.proofs.lemmas.Bool.Decides.{nat_tests}
use Rattle.ethernet_decode.specs.Decode.{field_of}
use Rattle.validation_ethernet.proofs.NoFindings.{faultless_frame}
use Rattle.validation_ethernet.proofs.Parts.{six}
use Rattle.validation_ethernet.specs.Tests.{llc, error_tests, warning_tests}
use Rattle.validation_ethernet.proofs.faultless.Goals as goal

pub returns-in_default : goal.returns-in_default
returns-in_default c = rw (← (faultless_frame c.args.frame.now)) (grind (arith, nat_tests))

pub returns-then-frame-ne-MIN_ETHERNET_FRAME_SIZE : goal.returns-then-frame-ne-MIN_ETHERNET_FRAME_SIZE
unfolding error_tests warning_tests field_of llc
returns-then-frame-ne-MIN_ETHERNET_FRAME_SIZE c =
    let destination = six c.args.frame.now (omega (arith, c.in-len17-up.len_at_least)) in
    rw (← (faultless_frame c.args.frame.now), ← destination) (grind (arith, nat_tests))

pub returns-else-frame-ne-MIN_ETHERNET_FRAME_SIZE : goal.returns-else-frame-ne-MIN_ETHERNET_FRAME_SIZE
unfolding error_tests warning_tests field_of llc
returns-else-frame-ne-MIN_ETHERNET_FRAME_SIZE c = rw (← (faultless_frame c.args.frame.now)) (grind (arith, nat_tests))
