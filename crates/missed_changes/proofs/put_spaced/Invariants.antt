-- `missed_changes::put_spaced` meets its contract: the first octet, then those put so far and those from a place on.
-- Assumes nothing.
use Rattle.missed_changes.proofs.Spaced.{Going}
use Rattle.missed_changes.proofs.put_spaced.Given as goal

abbrev pub invariant-loop-octet : goal.invariant-loop-octet
invariant-loop-octet l = Going l.octet-items l.initial.out l.initial.behind l.octet-index l.out l.behind
