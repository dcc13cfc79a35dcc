-- What the analysis answers: the patterns' questions decide for all three.
-- Assumes nothing.
use mathlib.Core.Path.{◌≡◌, sym}
use mathlib.Core.List.{List, []}
use Prim.Native.Nat.{ℕ}
use lib.ListN.{length}
use Rattle.std.specs.Prelude.{Result, Ok, Err}
use Rattle.octets.specs.declared.refusal.Refusal.{Refusal}
use Rattle.octets.proofs.Questions.{passed, ended, all_yes}
use Rattle.octets.proofs.Refusals.{accepts, none_failed, one_failed, handed_on}
use Rattle.crc.specs.declared.CheckRule.{CheckRule}
use Rattle.statistics.specs.declared.FrameStatistics.{FrameStatistics}
use Rattle.statistics.specs.Statistics.{frame_statistics, statistics_question, statistics}
use Rattle.patterns.specs.Entries.{entries}
use Rattle.patterns.specs.Detect.{patterns_questions, patterns_question, patterns_answer}
use Rattle.analysis.specs.Analysis.{analyzed, analysis}

module _ (s out : List ℕ) {detected : Result ℕ Refusal} (answer : detected ≡ patterns_answer s out) where
  -- where the patterns refuse, the analysis does
  pub none_detected : (rule : CheckRule) {e : Refusal} → detected ≡ Err e → Err e ≡ analysis rule s out
  unfolding patterns_answer analysis
  none_detected rule err = handed_on (length (entries s)) (patterns_question s out) answer (analyzed rule s) err

  -- where they count, the count is that of the entries, and none of their questions failed
  detects : {n : ℕ} → detected ≡ Ok n → (patterns_question s out ≡ 0) × (n ≡ length (entries s))
  unfolding patterns_answer
  detects ok = none_failed (length (entries s)) (patterns_question s out) answer ok

  module _ {n : ℕ} (ok : detected ≡ Ok n) where
    -- that of the statistics is among them
    asked : statistics_question s ≡ 0
    unfolding patterns_question patterns_questions statistics_question
    asked = let yes = all_yes (patterns_questions s out) tt (detects ok).0 in sym (passed 31 [] yes.0 ended)

    -- so the statistics do not refuse
    pub not_refused : {r : Result FrameStatistics Refusal} {e : Refusal} → r ≡ statistics s → r ≡ Err e → ⊥
    unfolding statistics
    not_refused is err = (one_failed (frame_statistics s) (statistics_question s) is err).0 asked

    pub all_three : (rule : CheckRule) {r : Result FrameStatistics Refusal} {t : FrameStatistics} → r ≡ statistics s → r ≡ Ok t
        → (n ≡ (analyzed rule s).patterns) × ((t ≡ (analyzed rule s).statistics) × (Ok (analyzed rule s) ≡ analysis rule s out))
    unfolding statistics analysis
    all_three rule is calculated = (
      (detects ok).1,
      ((none_failed (frame_statistics s) (statistics_question s) is calculated).1, accepts (analyzed rule s) (detects ok).0),
    )
