-- The analysis of a frame: validation, statistics and patterns together, under the patterns' questions.
-- Assumes nothing.
use Rattle.std.specs.Prelude.{List, ℕ, length, Result, IfOk}
use Rattle.octets.specs.Refusal.{result_of}
use Rattle.octets.specs.declared.refusal.Refusal.{Refusal}
use Rattle.crc.specs.declared.CheckRule.{CheckRule}
use Rattle.validation.specs.Frame.{frame_result}
use Rattle.statistics.specs.declared.FrameStatistics.{FrameStatistics}
use Rattle.statistics.specs.Statistics.{frame_statistics}
use Rattle.patterns.specs.Entries.{entries}
use Rattle.patterns.specs.Detect.{patterns_question}
use Rattle.analysis.specs.declared.FrameAnalysis.{FrameAnalysis}

-- an analysis: the count of entries in the lent list, the validation, the statistics
abbrev pub analyzed : CheckRule → List ℕ → FrameAnalysis
analyzed rule s = record {
  patterns = length (entries s);
  validation = frame_result rule s;
  statistics = frame_statistics s;
}

-- what the analysis answers
unfoldable pub analysis : CheckRule → List ℕ → List ℕ → Result FrameAnalysis Refusal
analysis rule s out = result_of (patterns_question s out) (analyzed rule s)

-- where the frame was analyzed, P holds of its statistics
abbrev pub Analyzes : (FrameStatistics → Type 0) → Result FrameAnalysis Refusal → Type 0
Analyzes P answer = IfOk answer (λ a. P a.statistics)
