-- `result_numbers::put_entries` meets its contract: the numbers of the entries passed are in front, and what is behind them stays.
-- Assumes nothing.
use Rattle.findings.specs.Entries.{entry_numbers}
use Rattle.result_numbers.proofs.Layouts.{Going}
use Rattle.result_numbers.proofs.put_entries.Given as goal

abbrev pub invariant-loop-i : goal.invariant-loop-i
invariant-loop-i g l = Going (entry_numbers g.F.Finding.numbers_of) l.entries l.initial.numbers l.i l.numbers
