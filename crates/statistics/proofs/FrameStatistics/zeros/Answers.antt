-- `statistics::FrameStatistics::zeros` meets its contract: it is the definition, number by number.
-- Assumes nothing.
use mathlib.Core.Path.{refl}
use Rattle.statistics.proofs.FrameStatistics.zeros.Goals as goal

pub returns : goal.returns
returns c = refl
