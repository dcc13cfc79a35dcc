-- `patterns::padded_frame::PaddedFrame::has_zeros` meets its contract: as many octets 00 in front as stand before the padding.
-- Assumes nothing.
use Rattle.std.proofs.Common.{rules}
use Rattle.std.proofs.lemmas.Iterator.{YieldsList-from_slice}
use Rattle.std.proofs.lemmas.Iterator.Search.{all_from_yields_List}
use Rattle.runs.specs.Front.{is}
use Rattle.patterns.proofs.Paddings.{few_before, zeros_before}
use Rattle.patterns.proofs.padded_frame.PaddedFrame.has_zeros.Goals as goal

pub returns-then-before-ge8 : goal.returns-then-before-ge8
unfolding is
returns-then-before-ge8 c =
    zeros_before _ c.args.self.now.is_padding c.before-before.ensures c.if-before-ge8.true
    (all_from_yields_List (is 0) _ _ _ c.all.ensures.ran (YieldsList-from_slice c.before-before.result.now cc) (λ x b q k. search rules))

pub returns-else-before-ge8 : goal.returns-else-before-ge8
returns-else-before-ge8 c = few_before _ c.args.self.now.is_padding c.before-before.ensures c.if-before-ge8.false
