-- `result_numbers::put_entries` meets its contract: the numbers of the entries passed are in front, and what is behind them stays.
-- Assumes nothing.
use mathlib.Core.Path.{ap, ◌∙◌}
use native.Mathlib.Omega.{arith}
use Rattle.std.proofs.Common.{rules}
use Rattle.findings.specs.Entries.{entry_numbers}
use Rattle.result_numbers.proofs.Layouts.{going_start, going_next, going_end}
use Rattle.result_numbers.proofs.put_entries.Goals as goal

pub loop-i-init : goal.loop-i-init
loop-i-init g c = going_start _ _ _

pub loop-i-preserved : goal.loop-i-preserved
loop-i-preserved g c =
    let told = c.entry_numbers.ensures ∙ ap (entry_numbers g.F.Finding.numbers_of) c.index-entries-i.is in
    going_next _ _ _ c.loop-i.i _ c.loop-i.invariant (omega (arith, c.loop-i.auto.numbers, c.requires)) c.loop-i-test.true told (search rules)

pub returns : goal.returns
returns g c = going_end _ _ _ c.loop-i.invariant (omega (arith, c.loop-i.auto.i-end, c.loop-i-test.false))
