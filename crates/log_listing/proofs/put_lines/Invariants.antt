-- `log_listing::put_lines` meets its contract: the lines put so far and those from the next end on are all lines.
-- Assumes nothing.
use mathlib.Core.Path.{◌≡◌}
use Rattle.log_listing.proofs.Lines.{Going}
use Rattle.log_listing.proofs.put_lines.Given as goal

abbrev pub invariant-loop-record : goal.invariant-loop-record
invariant-loop-record l =
    (goal.iterator-loop-record).can_next l.record-iterator
    × (goal.iterator-loop-record).is_finite l.record-iterator
    × (l.record-iterator.log.now ≡ l.log)
    × Going l.log l.initial.out l.out l.record-iterator.end l.at
