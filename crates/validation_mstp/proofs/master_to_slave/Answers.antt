-- `validation_mstp::master_to_slave` meets its contract: the tests are the definition's.
-- Assumes nothing.
use native.Mathlib.Omega.{arith}
use Rattle.std.proofs.lemmas.Bool.Decides.{nat_tests}
use Rattle.validation_mstp.specs.Tests.{master_to_slave}
use Rattle.validation_mstp.proofs.master_to_slave.Goals as goal

pub returns-then-is_slave_node : goal.returns-then-is_slave_node
unfolding master_to_slave
returns-then-is_slave_node c = grind (arith, nat_tests)

pub returns-else-is_slave_node : goal.returns-else-is_slave_node
unfolding master_to_slave
returns-else-is_slave_node c = grind (arith, nat_tests)
