-- Statistics as a list of numbers, number by number.
-- Assumes nothing.
use mathlib.Core.Path.{◌≡◌}
use mathlib.Core.List.{[], ◌∷◌}
use Prim.Native.Nat.{ℕ}
use Rattle.statistics.specs.declared.FrameStatistics.{FrameStatistics}
use Rattle.numbers.specs.Layout.{count_numbers}

-- statistics beside the distribution
pub counts_are : (t : FrameStatistics) {octet : ℕ} → octet ≡ t.longest_run.octet
    → t.null_bytes ∷ t.high_bytes ∷ octet ∷ t.longest_run.length ∷ t.longest_run.start ∷ [] ≡ count_numbers t
unfolding count_numbers
counts_are t is-octet = rw is-octet
