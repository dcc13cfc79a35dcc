-- `validation_ethernet::is_multicast` meets its contract: the low bit is asked, then the address.
-- Assumes nothing.
use borrow.Author.Tests.{eq-eqb, ne_eqb}
use Rattle.validation_ethernet.specs.Tests.{multicast}
use Rattle.validation_ethernet.proofs.is_multicast.Goals as goal

pub returns-then-address-eq1 : goal.returns-then-address-eq1
unfolding multicast
returns-then-address-eq1 c = rw (eq-eqb _ 1 c.if-address-eq1.true, c.is_broadcast.ensures)

pub returns-else-address-eq1 : goal.returns-else-address-eq1
unfolding multicast
returns-else-address-eq1 c = rw (ne_eqb _ 1 c.if-address-eq1.false)
