-- `validation_mstp::errorless` meets its contract: the first tests, then the checks of reading.
-- Assumes nothing.
use native.Mathlib.Omega.{arith}
use Rattle.std.proofs.lemmas.Bool.Decides.{nat_tests}
use Rattle.validation_mstp.proofs.NoFindings.{errorless_is, answered_is}
use Rattle.validation_mstp.proofs.errorless.Goals as goal

pub returns-then-from-le-MSTP_MAX_DATA_LENGTH : goal.returns-then-from-le-MSTP_MAX_DATA_LENGTH
returns-then-from-le-MSTP_MAX_DATA_LENGTH c =
    let a = answered_is _ c.checks_question.ensures in
    rw (errorless_is c.args.rule c.args.frame.now) (grind (arith, nat_tests))

pub returns-else-from-le-MSTP_MAX_DATA_LENGTH : goal.returns-else-from-le-MSTP_MAX_DATA_LENGTH
returns-else-from-le-MSTP_MAX_DATA_LENGTH c = rw (errorless_is c.args.rule c.args.frame.now) (grind (arith, nat_tests))
