-- `text::digits` meets its contract: those that are there, and those of what is left of the number, are all.
-- Assumes nothing.
use Rattle.std.proofs.Common.{arith, ◌∙◌, length-set}
use Rattle.text.proofs.Hexadecimals.{digit_more}
use Rattle.text.proofs.digits.Goals as goal

pub loop-k-preserved : goal.loop-k-preserved
loop-k-preserved g c = (
  simp length-set c.loop-k.invariant.0,
  digit_more _ _ _ c.loop-k-test.true (omega arith) c.last_digit.ensures ∙ c.loop-k.invariant.1,
)
