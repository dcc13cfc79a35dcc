-- `validation::no_link` meets its contract: no octets are too short, some are undetermined.
-- Assumes nothing.
use native.Mathlib.Omega.{arith}
use borrow.Author.Tests.{lt-ltb, le-ltb}
use Rattle.findings.specs.Result.{found, errors_of}
use Rattle.validation.specs.Frame.{no_link_errors}
use Rattle.validation.proofs.no_link.Goals as goal

pub returns-then-size-eq0 : goal.returns-then-size-eq0
unfolding no_link_errors errors_of found
returns-then-size-eq0 c = rw (lt-ltb c.args.size 1 (omega (arith, c.if-size-eq0.true))) c.too_short.ensures

pub returns : goal.returns
unfolding no_link_errors errors_of found
returns c = rw (le-ltb c.args.size 1 (omega (arith, c.if-size-eq0.false))) c.one_error.ensures
