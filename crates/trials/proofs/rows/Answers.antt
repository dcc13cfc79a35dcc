-- `rows` meets its contract: the table has as many rows, and each of them is computed.
-- Assumes nothing.
use mathlib.Core.Path.{refl}
use Rattle.trials.proofs.Trials.{trials}
use Rattle.trials.proofs.rows.Goals as goal

pub returns : goal.returns
returns c =
    record {
      value = refl;
      table = trials;
    }
