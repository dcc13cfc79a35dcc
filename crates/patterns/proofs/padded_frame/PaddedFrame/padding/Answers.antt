-- `patterns::padded_frame::PaddedFrame::padding` meets its contract: it is one from four octets on.
-- Assumes nothing.
use Prim.Native.Nat.{◌-◌}
use mathlib.Core.Path.{◌≡◌, ap, ◌∙◌}
use native.Mathlib.Omega.{arith}
use borrow.Author.Tests.{lt-leb, le-leb}
use lib.ListN.{length}
use lib.Seq.{length-take-le}
use Rattle.patterns.specs.Entries.{padding}
use Rattle.patterns.proofs.padded_frame.PaddedFrame.padding.Goals as goal

pub returns-then-self-lt4 : goal.returns-then-self-lt4
unfolding padding
returns-then-self-lt4 c = rw (← c.args.self.now.is_padding, lt-leb 4 _ c.if-self-lt4.true)

pub returns : goal.returns
unfolding padding
returns c =
    let s = c.args.self.now.frame.now in
    let before : length c.before-2.result.now ≡ length s - c.args.self.now.padding
    = ap length c.before-2.ensures ∙ length-take-le (length s - c.args.self.now.padding) s (omega arith) in
    rw (before, ← c.args.self.now.is_padding, le-leb 4 _ c.if-self-lt4.false)
