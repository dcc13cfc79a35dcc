-- The statistics of a frame: how often each value occurs, zeros, high octets, the longest run (question 31).
-- Assumes nothing.
use Rattle.std.specs.Prelude.{ℕ, List, [], ◌∷◌, map, leb, replicate, Result}
use Rattle.std.specs.List.{range_with_len}
use Rattle.octets.specs.Question.{first_no}
use Rattle.octets.specs.Refusal.{result_of}
use Rattle.octets.specs.Size.{size_question}
use Rattle.octets.specs.declared.refusal.Refusal.{Refusal}
use Rattle.runs.specs.Front.{is, count}
use Rattle.runs.specs.Longest.{run, longest}
use Rattle.statistics.specs.declared.FrameStatistics.{FrameStatistics}

-- for each of n values from a on, how many octets have it
unfoldable pub counts_from : ℕ → ℕ → List ℕ → List ℕ
counts_from a n s = map (λ v. count (is v) s) (range_with_len a n)

-- for each value from 00 to FF, how many octets have it
unfoldable pub byte_distribution : List ℕ → List ℕ
byte_distribution s = counts_from 0x00 256 s

-- how many octets are 00
unfoldable pub null_bytes : List ℕ → ℕ
null_bytes s = count (is 0x00) s

-- how many octets are 80 or more
unfoldable pub high_bytes : List ℕ → ℕ
high_bytes s = count (leb 0x80) s

-- the statistics of some octets
unfoldable pub frame_statistics : List ℕ → FrameStatistics
frame_statistics s = record {
  byte_distribution = byte_distribution s;
  null_bytes = null_bytes s;
  high_bytes = high_bytes s;
  longest_run = longest s;
}

-- zeros: what stands where nothing was counted
abbrev pub no_statistics : FrameStatistics
no_statistics = record {
  byte_distribution = replicate 256 0;
  null_bytes = 0;
  high_bytes = 0;
  longest_run = run 0 0 0;
}

-- the question that some octets fail, or 0
unfoldable pub statistics_question : List ℕ → ℕ
statistics_question s = first_no (size_question s ∷ [])

-- what the statistics answer
unfoldable pub statistics : List ℕ → Result FrameStatistics Refusal
statistics s = result_of (statistics_question s) (frame_statistics s)
