-- `bip_message::process_bvlc_message` meets its contract: the header's questions, then the two behind them.
-- Assumes nothing.
use mathlib.Core.Path.{sym, ◌∙◌}
use Rattle.std.proofs.lemmas.Result.{err_from_is_err_and}
use Rattle.bip_message.proofs.Messages.{header_refused, other_length, all_asked}
use Rattle.bip_message.proofs.process_bvlc_message.Goals as goal

pub returns-in_err-header : goal.returns-in_err-header
returns-in_err-header c =
    let p = err_from_is_err_and c.from_residual.result c.from_residual.ensures.1 in
    rw (p.1, p.2) (header_refused _ (sym c.decode.ensures.value ∙ c.in_err-header.was))

pub returns-then-from-message : goal.returns-then-from-message
returns-then-from-message c =
    other_length _ (sym c.decode.ensures.value ∙ c.in_ok-header.was) c.from.ensures c.if-from-message.true

pub returns : goal.returns
returns c =
    all_asked _ (sym c.decode.ensures.value ∙ c.in_ok-header.was) c.from.ensures c.if-from-message.false c.message_of.ensures
