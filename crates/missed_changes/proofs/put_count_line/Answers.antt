-- `missed_changes::put_count_line` meets its contract: each text is put behind those before it.
-- Assumes nothing.
use mathlib.Core.Path.{refl}
use Rattle.text.proofs.Texts.{puts}
use Rattle.text.proofs.Texts.InTurn.{none, then}
use Rattle.missed_changes.specs.Text.{count_line}
use Rattle.missed_changes.proofs.put_count_line.Goals as goal

pub returns : goal.returns
unfolding count_line
returns c =
    puts _
    (then (c.put-behind.ensures.value, c.put-behind.ensures.output)
    (then (c.put_field-behind.ensures.value, c.put_field-behind.ensures.output)
    (then (c.put-behind-2.ensures.value, c.put-behind-2.ensures.output) (then (c.put_field-behind-2.ensures.value, c.put_field-behind-2.ensures.output) (then (c.put.ensures.value, c.put.ensures.output) none)))))
    refl c.requires
