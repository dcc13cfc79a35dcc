-- `findings::Entries::add` meets its contract: the finding is put behind the others.
-- Assumes nothing.
use Rattle.findings.proofs.Filled.{holds_more, added}
use Rattle.findings.proofs.entries.Entries.add.Goals as goal

pub invariant_of-self : goal.invariant_of-self
invariant_of-self g c = holds_more c.self.invariant _ c.if-self.true

pub returns-then-self : goal.returns-then-self
returns-then-self g c = rw c.in-Some.is (added c.self.invariant _ c.if-self.true c.self.view_is)
