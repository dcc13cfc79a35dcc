-- `patterns::pattern::put` meets its contract: four numbers where there is a pattern and there is room, else none.
-- Assumes nothing.
use mathlib.Core.Path.{◌∙◌}
use Rattle.patterns.proofs.Stores.{put_no, put_one, put_full}
use Rattle.patterns.proofs.pattern.put.Goals.{then-at-out, else-at-out}
use Rattle.patterns.proofs.pattern.put.Goals as goal

pub returns-in-None : goal.returns-in-None
returns-in-None c = rw c.in-None.is (put_no _ _)

pub returns-after-at-out : goal.returns-after-at-out
returns-after-at-out c =
    rw c.in-Some.is
    elim c.if-at-out.branch [
      | then-at-out w ↦ rw w.out-is (put_one _ _ _ w.if-at-out.true (w.copy_from_slice.ensures.after ∙ w.from.ensures))
      | else-at-out w ↦ rw w.out-is (put_full _ _ _ w.if-at-out.false)
    ]
