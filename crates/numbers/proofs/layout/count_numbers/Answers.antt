-- `numbers::layout::count_numbers` meets its contract: the five numbers are the definition's.
-- Assumes nothing.
use Rattle.numbers.proofs.Layouts.{counts_are}
use Rattle.numbers.proofs.layout.count_numbers.Goals as goal

pub returns : goal.returns
returns c = counts_are c.args.statistics c.from.ensures
