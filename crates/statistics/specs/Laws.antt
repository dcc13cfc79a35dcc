-- What the contract of `calculate_frame_statistics` promises beside its equation.
-- Assumes nothing.
use Rattle.std.specs.Prelude.{◌≡◌, List, ℕ, length, get_or, drop, sum}
use Rattle.runs.specs.Longest.{Longest, OnlyLongest}
use Rattle.statistics.specs.declared.FrameStatistics.{FrameStatistics}

-- all counts add up to the length
abbrev pub AllCounted : List ℕ → FrameStatistics → Type 0
AllCounted s t = sum t.byte_distribution ≡ length s

-- the count of 00 is that of null bytes
abbrev pub NullCounted : FrameStatistics → Type 0
NullCounted t = get_or t.byte_distribution 0x00 0 ≡ t.null_bytes

-- the counts of 80 and more add up to that of high bytes
abbrev pub HighCounted : FrameStatistics → Type 0
HighCounted t = sum (drop 0x80 t.byte_distribution) ≡ t.high_bytes

-- the run is the longest, the earliest of equals, and no other run is
abbrev pub LongestStands : List ℕ → FrameStatistics → Type 0
LongestStands s t = Longest s t.longest_run × OnlyLongest s t.longest_run
