-- `patterns::seen::Seen::put` meets its contract: each part is put behind the one before.
-- Assumes nothing.
use native.Mathlib.Omega.{arith}
use Rattle.patterns.proofs.Stores.{few_texts, few_marks, all_put}
use Rattle.patterns.proofs.seen.Seen.put.Goals as goal

pub put-at-requires-2 : goal.put-at-requires-2
put-at-requires-2 c =
    let t = c.args.self.now in
    omega (arith, few_texts t.text_part.now t.short t.padding c.put-at.ensures c.put_texts-at.ensures)

pub put-requires : goal.put-requires
put-requires c =
    let t = c.args.self.now in
    few_marks t.text_part.now t.short t.padding c.put-at.ensures c.put_texts-at.ensures _ c.put-at-2.ensures

pub returns : goal.returns
returns c =
    let t = c.args.self.now in
    rw (← c.then_some.ensures, ← c.then_some-2.ensures)
    (all_put t.text_part.now t.short t.padding c.put-at.ensures c.put_texts-at.ensures _ c.put-at-2.ensures _ c.put.ensures)
