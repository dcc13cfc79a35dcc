-- `patterns::padded_frame::PaddedFrame::text_part` meets its contract: a padding that is not printable adds no text.
-- Assumes nothing.
use mathlib.Core.Path.{◌≡◌, sym, ◌∙◌}
use Rattle.padding.specs.Padding.{last}
use Rattle.std.proofs.Common.{rules}
use Rattle.patterns.proofs.Texts.{texts_unpadded}
use Rattle.patterns.proofs.padded_frame.PaddedFrame.text_part.Goals as goal

pub returns-in-Some-clause-texts : goal.returns-in-Some-clause-texts
returns-in-Some-clause-texts c =
    let s = c.args.self.now.frame.now in
    let value : c.in-Some.field-0.now ≡ last s = search rules in
    rw c.before-in-Some.ensures (texts_unpadded s c.args.self.now.is_padding (rw (← value) (sym c.within.ensures ∙ c.if-not-within.true)))
