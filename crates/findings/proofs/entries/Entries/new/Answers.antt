-- `findings::Entries::new` meets its contract: nothing is held.
-- Assumes nothing.
use Rattle.findings.proofs.Filled.{holds_none, shows_none}
use Rattle.findings.proofs.entries.Entries.new.Goals as goal

pub invariant_of-result : goal.invariant_of-result
invariant_of-result g c = holds_none _

pub returns : goal.returns
returns g c = shows_none _
