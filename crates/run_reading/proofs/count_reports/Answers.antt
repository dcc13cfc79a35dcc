-- `run_reading::count_reports` meets its contract: a whole reading gives all the reports of the run.
-- Assumes nothing.
use mathlib.Core.Path.{sym, ap, ◌∙◌}
use lib.ListN.{length}
use Rattle.run_finder.proofs.Pass.{reading_reports}
use Rattle.run_reading.proofs.count_reports.Goals as goal

pub returns : goal.returns
returns c =
    let a = c.args in
    let whole = reading_reports a.rule a.run.now c.requires (λ i. (c.type_inv.run i).fits) in
    c.store_reports.ensures.value ∙ ap length (sym whole)
