-- `octets::within` meets its contract: the two tests are the definition's.
-- Assumes nothing.
use borrow.Author.Tests.{le-leb, lt-leb}
use Rattle.octets.specs.Range.{within}
use Rattle.octets.proofs.within.Goals as goal

pub returns-then-low-octet : goal.returns-then-low-octet
unfolding within
returns-then-low-octet c = rw (le-leb _ _ c.if-low-octet.true)

pub returns-else-low-octet : goal.returns-else-low-octet
unfolding within
returns-else-low-octet c = rw (lt-leb _ _ c.if-low-octet.false)
