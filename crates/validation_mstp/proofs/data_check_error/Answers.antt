-- `validation_mstp::data_check_error` meets its contract: nothing where the check is not there, else the two are compared.
-- Assumes nothing.
use native.Mathlib.Omega.{arith}
use Rattle.std.proofs.lemmas.Bool.Decides.{nat_tests}
use Rattle.validation_mstp.specs.Tests.{data_check_there, data_check_test}
use Rattle.validation_mstp.proofs.data_check_error.Goals as goal

pub returns-then-data_length-eq0 : goal.returns-then-data_length-eq0
unfolding data_check_test data_check_there
returns-then-data_length-eq0 c = grind (arith, nat_tests)

pub returns : goal.returns
unfolding data_check_test data_check_there
returns c = grind (arith, nat_tests)
