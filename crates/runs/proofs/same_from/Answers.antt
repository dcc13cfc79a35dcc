-- `runs::same_from` meets its contract: x to x is x.
-- Assumes nothing.
use mathlib.Core.Path.{◌∙◌}
use Rattle.octets.specs.Range.{within}
use Rattle.runs.specs.Front.{is}
use Rattle.runs.proofs.Front.{front_alike, within_same}
use Rattle.runs.proofs.same_from.Goals as goal

pub returns : goal.returns
returns c =
    let x = c.args.x in
    c.within_from.ensures ∙ front_alike (within x x) (is x) (within_same x) _
