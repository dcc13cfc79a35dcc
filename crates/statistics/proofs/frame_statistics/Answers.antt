-- `statistics::frame_statistics` meets its contract: entry 0 counts the zeros, and the entries from 80 on add up to the high octets.
-- Assumes nothing.
use mathlib.Core.Path.{◌∙◌}
use native.Mathlib.Omega.{arith}
use Rattle.statistics.proofs.Sums.{high_part, high_few}
use Rattle.statistics.proofs.Answers.{statistics_of}
use Rattle.statistics.proofs.frame_statistics.Goals as goal

pub sum-requires : goal.sum-requires
sum-requires c = omega (arith, high_few _ (λ i. (c.type_inv.frame i).fits) c.byte_distribution-byte_distribution.ensures)

pub returns : goal.returns
returns c =
    let e = c.byte_distribution-byte_distribution.ensures in
    statistics_of _ e (c.sum.ensures ∙ high_part _ (λ i. (c.type_inv.frame i).fits) e) c.longest_run.ensures.value
