-- `check_tables::put_data` meets its contract: the lines put so far and those from an entry on are all lines.
-- Assumes nothing.
use Rattle.check_tables.proofs.Lines.{Going}
use Rattle.check_tables.proofs.put_data.Given as goal

abbrev pub invariant-loop-i : goal.invariant-loop-i
invariant-loop-i l = Going 4 l.data l.initial.out l.at l.i l.out l.behind
