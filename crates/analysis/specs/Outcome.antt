-- What a contract sees of an analysis: its fields.
-- Assumes nothing.
use Rattle.std.specs.Prelude.{ℕ}
use Rattle.findings.specs.declared.ValidationResult.{ValidationResult}
use Rattle.statistics.specs.declared.FrameStatistics.{FrameStatistics}

pub record Outcome : Type 0 where
  pub patterns : ℕ
  pub validation : ValidationResult
  pub statistics : FrameStatistics
