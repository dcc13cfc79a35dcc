-- `numbers::layout::layout_version` meets its contract: it is the definition's number.
-- Assumes nothing.
use mathlib.Core.Path.{refl}
use Rattle.numbers.proofs.layout.layout_version.Goals as goal

pub returns : goal.returns
returns c = refl
