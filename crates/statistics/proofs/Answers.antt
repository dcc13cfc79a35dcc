-- What the statistics are, and what the answer promises of them.
-- Assumes nothing.
use mathlib.Core.Path.{◌≡◌, refl}
use Prim.Native.Nat.{ℕ}
use native.Mathlib.Omega.{arith}
use mathlib.Core.Bool.{false}
use mathlib.Core.List.{List, []}
use lib.ListN.{length, get_or}
use Rattle.std.specs.Prelude.{Err}
use Rattle.octets.specs.Size.{at_most_65535}
use Rattle.octets.specs.declared.refusal.Refusal.TheVariants.{TooManyOctets}
use Rattle.octets.proofs.Parts.{Octets}
use Rattle.octets.proofs.Refusals.{fails}
use Rattle.runs.specs.Longest.{longest}
use Rattle.runs.specs.declared.Run.{Run}
use Rattle.runs.proofs.Longest.{longest_law, only_longest}
use Rattle.statistics.specs.Statistics.{byte_distribution, null_bytes, high_bytes, frame_statistics, statistics_question, statistics}
use Rattle.statistics.specs.Laws.{AllCounted, NullCounted, HighCounted, LongestStands}
use Rattle.statistics.proofs.Counting.{distribution_at}
use Rattle.statistics.proofs.Sums.{all_total, high_total}

module _ (s : List ℕ) where
  -- the statistics of a distribution, a sum and a run
  pub statistics_of : {counts : List ℕ} {high : ℕ} {r : Run} → counts ≡ byte_distribution s → high ≡ high_bytes s → r ≡ longest s
      → record {
        byte_distribution = counts;
        null_bytes = get_or counts 0 0;
        high_bytes = high;
        longest_run = r;
      } ≡ frame_statistics s
  unfolding frame_statistics null_bytes
  statistics_of e f g = rw (e, f, g, distribution_at s 0 (omega arith))

  -- more octets than question 31 takes
  pub too_many : at_most_65535 (length s) ≡ false → Err TooManyOctets ≡ statistics s
  unfolding statistics statistics_question
  too_many h = fails (frame_statistics s) 31 [] refl h

  -- what is promised of statistics
  pub null_counted : NullCounted (frame_statistics s)
  unfolding frame_statistics null_bytes
  null_counted = distribution_at s 0 (omega arith)

  pub longest_stands : LongestStands s (frame_statistics s)
  unfolding frame_statistics
  longest_stands = (longest_law s, only_longest s)

  module _ (octets : Octets s) where
    pub all_counted : AllCounted s (frame_statistics s)
    unfolding frame_statistics
    all_counted = all_total s octets

    pub high_counted : HighCounted (frame_statistics s)
    unfolding frame_statistics
    high_counted = high_total s octets
