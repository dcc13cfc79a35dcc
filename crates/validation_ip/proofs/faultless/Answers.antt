-- `validation_ip::faultless` meets its contract: the tests are those of the definition.
-- Assumes nothing.
use native.Mathlib.Omega.{arith}
use Rattle.std.proofs.lemmas.Bool.Decides.{nat_tests}
use Rattle.bip_header.specs.Header.{message_length}
use Rattle.validation_ip.proofs.NoFindings.{faultless_message}
use Rattle.validation_ip.specs.Tests.{error_tests, warning_tests}
use Rattle.validation_ip.proofs.faultless.Goals as goal

pub returns-in_default : goal.returns-in_default
returns-in_default c = rw (← (faultless_message c.args.message.now)) (grind (arith, nat_tests))

pub returns-then-function-ne-SECURE_BVLL : goal.returns-then-function-ne-SECURE_BVLL
unfolding error_tests warning_tests message_length
returns-then-function-ne-SECURE_BVLL c = rw (← (faultless_message c.args.message.now)) (grind (arith, nat_tests))

pub returns-else-function-ne-SECURE_BVLL : goal.returns-else-function-ne-SECURE_BVLL
unfolding error_tests warning_tests message_length
returns-else-function-ne-SECURE_BVLL c = rw (← (faultless_message c.args.message.now)) (grind (arith, nat_tests))
