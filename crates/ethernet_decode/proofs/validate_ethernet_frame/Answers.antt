-- `ethernet_decode::validate_ethernet_frame` meets its contract: question 24, and else those of reading.
-- Assumes nothing.
use mathlib.Core.Path.{refl, ◌∙◌}
use native.Mathlib.Omega.{arith}
use borrow.Author.Tests.{le-leb, lt-leb}
use Rattle.std.proofs.lemmas.Result.{err_from_is_err_and}
use Rattle.octets.proofs.Refusals.{accepts, passes, fails, none_failed, handed_on}
use Rattle.ethernet_decode.specs.Decode.{validate_questions, validate}
use Rattle.ethernet_decode.proofs.Answers.{same_questions, validated}
use Rattle.ethernet_decode.proofs.validate_ethernet_frame.Goals as goal

pub returns-then-frame-gt-MAX_ETHERNET_FRAME_SIZE : goal.returns-then-frame-gt-MAX_ETHERNET_FRAME_SIZE
unfolding validate validate_questions
returns-then-frame-gt-MAX_ETHERNET_FRAME_SIZE c =
    let many = c.if-frame-gt-MAX_ETHERNET_FRAME_SIZE.true in
    let all = validated _ (passes _ 21 _ (le-leb _ _ (omega (arith, many))) (fails _ 24 _ refl (lt-leb _ _ (omega (arith, many))))) in
    record { value = all.0; agrees = all.1 }

pub returns-in_err-length_of : goal.returns-in_err-length_of
unfolding validate
returns-in_err-length_of c =
    let p = err_from_is_err_and c.from_residual.result c.from_residual.ensures.1 in
    let all = validated _ (rw (p.1, p.2, same_questions c.args.frame.now (omega (arith, c.if-frame-gt-MAX_ETHERNET_FRAME_SIZE.false)))
    (handed_on _ _ c.length_of.ensures tt c.in_err-length_of.was)) in
    record { value = all.0; agrees = all.1 }

pub returns : goal.returns
unfolding validate
returns c =
    let f = none_failed _ _ c.length_of.ensures c.in_ok-length_of.was in
    let all = validated _ (accepts _ (same_questions _ (omega (arith, c.if-frame-gt-MAX_ETHERNET_FRAME_SIZE.false)) ∙ f.0)) in
    record { value = all.0; agrees = all.1 }
