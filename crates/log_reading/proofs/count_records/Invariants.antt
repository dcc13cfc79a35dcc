-- `log_reading::count_records` meets its contract: the records counted and those of the calls from here back are all.
-- Assumes nothing.
use mathlib.Core.Path.{◌≡◌}
use Rattle.log_reading.proofs.Reading.{Past}
use Rattle.log_reading.proofs.count_records.Given as goal

abbrev pub invariant-loop-record : goal.invariant-loop-record
invariant-loop-record l =
    (goal.iterator-loop-record).can_next l.record-iterator
    × (goal.iterator-loop-record).is_finite l.record-iterator
    × (l.record-iterator.log.now ≡ l.log)
    × Past l.log l.end l.count l.record-iterator.end
