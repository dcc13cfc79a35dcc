-- `patterns::ascii_text::put_texts` meets its contract: each turn puts the text at `start`, if one is there, and goes on behind an octet that is in no text.
-- Assumes nothing.
use native.Mathlib.Omega.{arith}
use Rattle.patterns.proofs.Texts.{texts_few}
use Rattle.patterns.proofs.Stores.{walked_start, walked_turn, walked_end}
use Rattle.patterns.proofs.ascii_text.put_texts.Goals as goal

pub loop-start-init : goal.loop-start-init
loop-start-init c = walked_start _ _ _

pub put-here-requires : goal.put-here-requires
put-here-requires c = omega (arith, c.loop-start.invariant.count, texts_few c.args.frame.now)

pub loop-start-preserved : goal.loop-start-preserved
loop-start-preserved c =
    walked_turn _ _ _ c.loop-start.invariant c.loop-start-test.true c.text_length-length.ensures (rw c.then_some.ensures at c.put-here.ensures)

pub returns : goal.returns
returns c = walked_end _ _ _ c.loop-start.invariant c.loop-start-test.false
