-- `validation_ethernet::is_broadcast` meets its contract: octets FF in front are counted.
-- Assumes nothing.
use Rattle.validation_ethernet.specs.Tests.{broadcast}
use Rattle.validation_ethernet.proofs.is_broadcast.Goals as goal

pub returns : goal.returns
unfolding broadcast
returns c = rw c.same_from.ensures
