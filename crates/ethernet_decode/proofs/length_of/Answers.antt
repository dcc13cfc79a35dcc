-- `ethernet_decode::length_of` meets its contract: the size, the form's questions, then that of the LLC header.
-- Assumes nothing.
use mathlib.Core.Path.{refl, sym, ap, ◌∙◌}
use mathlib.Core.List.{[]}
use borrow.Author.Tests.{le-leb, lt-leb}
use Rattle.octets.proofs.Refusals.{passes, fails, ends, none_failed, one_failed, handed_on}
use Rattle.std.specs.Prelude.{Ok}
use Rattle.std.proofs.lemmas.Result.{err_from_is_err_and}
use Rattle.ethernet_decode.specs.Decode.{header_questions, decode_questions, decode_question}
use Rattle.ethernet_decode.proofs.Questions.{first_refuses, second_answers, numbered_form, llc_read}
use Rattle.ethernet_decode.proofs.length_of.Goals as goal

pub returns-then-frame-lt-BACNET_ETHERNET_HEADER_SIZE : goal.returns-then-frame-lt-BACNET_ETHERNET_HEADER_SIZE
unfolding decode_question decode_questions
returns-then-frame-lt-BACNET_ETHERNET_HEADER_SIZE c = fails _ 21 _ refl (lt-leb _ _ c.if-frame-lt-BACNET_ETHERNET_HEADER_SIZE.true)

pub returns-in_err-length : goal.returns-in_err-length
unfolding decode_question decode_questions header_questions
returns-in_err-length c =
    let p = err_from_is_err_and c.from_residual.result c.from_residual.ensures.1 in
    let f = one_failed _ _ c.form_length.ensures c.in_err-length.was in
    rw (p.1, p.2) (passes _ 21 _ (le-leb _ _ c.if-frame-lt-BACNET_ETHERNET_HEADER_SIZE.false)
    (first_refuses _ _ _ f.0 (handed_on _ _ c.form_length.ensures _ c.in_err-length.was)))

pub returns-then-ne : goal.returns-then-ne
unfolding decode_question decode_questions header_questions
returns-then-ne c =
    let long = c.if-frame-lt-BACNET_ETHERNET_HEADER_SIZE.false in
    let f = none_failed _ _ c.form_length.ensures c.in_ok-length.was in
    passes _ 21 _ (le-leb _ _ long)
    (second_answers _ _ _ (numbered_form _ _) f.0 (fails _ 23 [] refl (llc_read _ long (sym c.ne.ensures ∙ c.if-ne.true))))

pub returns : goal.returns
unfolding decode_question decode_questions header_questions
returns c =
    let long = c.if-frame-lt-BACNET_ETHERNET_HEADER_SIZE.false in
    let f = none_failed _ _ c.form_length.ensures c.in_ok-length.was in
    passes _ 21 _ (le-leb _ _ long)
    (second_answers _ _ _ (numbered_form _ _) f.0 (passes _ 23 [] (llc_read _ long (sym c.ne.ensures ∙ c.if-ne.false)) (ap Ok f.1 ∙ ends _)))
