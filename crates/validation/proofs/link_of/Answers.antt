-- `validation::link_of` meets its contract: the tests are the definition's, one after another.
-- Assumes nothing.
use native.Mathlib.Omega.{arith}
use Rattle.std.proofs.lemmas.Bool.Decides.{nat_tests}
use Rattle.validation.specs.Frame.{link_of}
use Rattle.validation.proofs.link_of.Goals as goal

pub returns-then-begins_preamble : goal.returns-then-begins_preamble
unfolding link_of
returns-then-begins_preamble c = grind (arith, nat_tests)

pub returns-then-begins_bvlc : goal.returns-then-begins_bvlc
unfolding link_of
returns-then-begins_bvlc c = grind (arith, nat_tests)

pub returns-then-has_bacnet_type : goal.returns-then-has_bacnet_type
unfolding link_of
returns-then-has_bacnet_type c = grind (arith, nat_tests)

pub returns-else-has_bacnet_type : goal.returns-else-has_bacnet_type
unfolding link_of
returns-else-has_bacnet_type c = grind (arith, nat_tests)
