-- `padding::state_after` meets its contract: the steps fold the octets into the state after them.
-- Assumes nothing.
use mathlib.Core.Path.{◌≡◌, ◌∙◌}
use native.Mathlib.Omega.{arith}
use Rattle.std.specs.List.{fold}
use Rattle.std.proofs.Common.{rules}
use Rattle.std.proofs.iter.runs.Made.{chains}
use Rattle.padding.specs.State.{next}
use Rattle.padding.proofs.States.{fold_after}
use Rattle.padding.proofs.state_after.Goals as goal

pub returns : goal.returns
returns c =
    let s = c.args.octets.now in
    let folded : c.fold.result ≡ fold next c.new.result s = search (rules, chains) in
    folded ∙ rw c.new.ensures (fold_after s (omega arith))
