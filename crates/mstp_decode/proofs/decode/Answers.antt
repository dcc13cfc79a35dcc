-- `mstp_decode::decode` meets its contract: the questions decide between the refusal and the header.
-- Assumes nothing.
use Rattle.std.proofs.lemmas.Result.{err_from_is_err_and}
use Rattle.mstp_decode.proofs.Answers.{Decoded, decode_refused, decode_accepted}
use Rattle.mstp_decode.proofs.decode.Goals as goal

pub returns-in_err-decode_question : goal.returns-in_err-decode_question
returns-in_err-decode_question c =
    let p = err_from_is_err_and c.from_residual.result c.from_residual.ensures.1 in
    let all : Decoded c.args.rule c.args.frame.now c.from_residual.result
    = rw (p.1, p.2) (decode_refused _ _ c.decode_question.ensures (λ i. (c.type_inv.frame i).fits) c.in_err-decode_question.was) in
    record { value = all.value; back = all.back; changes = all.changes; example = all.example; limits = all.limits }

pub returns : goal.returns
returns c =
    let all = decode_accepted _ _ c.decode_question.ensures (λ i. (c.type_inv.frame i).fits) c.in_ok-decode_question.was c.header_of.ensures in
    record { value = all.value; back = all.back; changes = all.changes; example = all.example; limits = all.limits }
