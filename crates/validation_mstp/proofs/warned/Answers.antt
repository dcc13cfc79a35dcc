-- `validation_mstp::warned` meets its contract: the two tests are the definition's.
-- Assumes nothing.
use native.Mathlib.Omega.{arith}
use Rattle.std.proofs.lemmas.Bool.Decides.{nat_tests}
use Rattle.findings.proofs.Quiet.{quiet_is}
use Rattle.validation_mstp.specs.Tests.{warning_tests}
use Rattle.validation_mstp.proofs.warned.Goals as goal

pub returns-then-frame_type-ge-PROPRIETARY : goal.returns-then-frame_type-ge-PROPRIETARY
unfolding warning_tests
returns-then-frame_type-ge-PROPRIETARY c = rw (quiet_is (warning_tests c.args.rule c.args.frame.now)) (grind (arith, nat_tests))

pub returns-else-frame_type-ge-PROPRIETARY : goal.returns-else-frame_type-ge-PROPRIETARY
unfolding warning_tests
returns-else-frame_type-ge-PROPRIETARY c = rw (quiet_is (warning_tests c.args.rule c.args.frame.now)) (grind (arith, nat_tests))
