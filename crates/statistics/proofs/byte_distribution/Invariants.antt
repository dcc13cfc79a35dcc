-- `statistics::byte_distribution` meets its contract: the counts are those of the octets passed.
-- Assumes nothing.
use Rattle.statistics.proofs.Counting.{Counted}
use Rattle.statistics.proofs.byte_distribution.Given as goal

abbrev pub invariant-loop-octet : goal.invariant-loop-octet
invariant-loop-octet l = Counted l.frame l.counts l.octet-index
