-- `statistics::byte_distribution` meets its contract: the counts are those of the octets passed.
-- Assumes nothing.
use native.Mathlib.Omega.{arith}
use Rattle.statistics.proofs.Counting.{counted_start, counted_few, counted_turn, counted_end}
use Rattle.statistics.proofs.byte_distribution.Goals as goal

pub loop-octet-init : goal.loop-octet-init
loop-octet-init c = counted_start c.args.frame.now

pub overflow_add-counts : goal.overflow_add-counts
overflow_add-counts c =
    omega (arith, counted_few c.args.frame.now c.loop-octet.counts c.loop-octet.octet-index c.loop-octet.invariant c.from.result (omega arith))

pub loop-octet-preserved : goal.loop-octet-preserved
loop-octet-preserved c = counted_turn _ _ _ c.loop-octet.invariant _ c.loop-octet-test.true c.from.ensures (omega arith)

pub returns : goal.returns
returns c = counted_end _ _ _ c.loop-octet.invariant c.loop-octet-test.false
