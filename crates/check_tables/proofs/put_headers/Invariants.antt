-- `check_tables::put_headers` meets its contract: the lines put so far and those from an entry on are all lines.
-- Assumes nothing.
use Rattle.check_tables.proofs.Lines.{Going}
use Rattle.check_tables.proofs.put_headers.Given as goal

abbrev pub invariant-loop-i : goal.invariant-loop-i
invariant-loop-i l = Going 2 l.headers l.initial.out l.at l.i l.out l.behind
