-- `validation_mstp::faultless` meets its contract: octets enough, and neither a warning nor an error.
-- Assumes nothing.
use native.Mathlib.Omega.{arith}
use Rattle.std.proofs.lemmas.Bool.Decides.{nat_tests}
use Rattle.findings.proofs.Quiet.{quiet_is}
use Rattle.validation_mstp.specs.Tests.{warning_tests}
use Rattle.validation_mstp.proofs.NoFindings.{errorless_is, faultless_frame}
use Rattle.validation_mstp.proofs.faultless.Goals as goal

pub returns-then-not-warned : goal.returns-then-not-warned
returns-then-not-warned c =
    let q = quiet_is (warning_tests c.args.rule c.args.frame.now) in
    rw (← (faultless_frame c.args.rule c.args.frame.now)) (grind (arith, nat_tests))

pub returns-else-not-warned : goal.returns-else-not-warned
returns-else-not-warned c =
    let q = quiet_is (warning_tests c.args.rule c.args.frame.now) in
    rw (← (faultless_frame c.args.rule c.args.frame.now), errorless_is c.args.rule c.args.frame.now) (grind (arith, nat_tests))
