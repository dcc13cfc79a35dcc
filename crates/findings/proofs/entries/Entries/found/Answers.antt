-- `findings::Entries::found` meets its contract: the count tells which entries are used.
-- Assumes nothing.
use Rattle.findings.proofs.Filled.{used}
use Rattle.findings.proofs.entries.Entries.found.Goals as goal

pub returns : goal.returns
returns g c = used c.self.invariant c.self.view_is
