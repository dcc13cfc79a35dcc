-- `analysis::analyze_frame` meets its contract: the patterns' answer decides for all three.
-- Assumes nothing.
use Rattle.std.proofs.lemmas.Result.{err_from_is_err_and}
use Rattle.analysis.proofs.Answers.{none_detected, not_refused, all_three}
use Rattle.analysis.proofs.analyze_frame.Goals as goal

pub returns-in_err-patterns-clause-value : goal.returns-in_err-patterns-clause-value
returns-in_err-patterns-clause-value c =
    let p = err_from_is_err_and c.from_residual.result c.from_residual.ensures.1 in
    rw (p.1, p.2) (none_detected _ _ c.detect_patterns.ensures.value _ c.in_err-patterns.was)

pub returns-in_err-statistics-clause-value : goal.returns-in_err-statistics-clause-value
returns-in_err-statistics-clause-value c =
    absurd (not_refused _ _ c.detect_patterns.ensures.value c.in_ok-patterns.was c.calculate_frame_statistics.ensures.value c.in_err-statistics.was)

pub returns-clause-value : goal.returns-clause-value
returns-clause-value c =
    let all = all_three _ _ c.detect_patterns.ensures.value c.in_ok-patterns.was c.args.rule c.calculate_frame_statistics.ensures.value c.in_ok-statistics.was in
    rw (all.0, all.1.0, c.validate_frame.ensures) all.1.1
