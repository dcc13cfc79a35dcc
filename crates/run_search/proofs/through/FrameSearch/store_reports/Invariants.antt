-- `run_search::through::FrameSearch::store_reports` meets its contract: the numbers stored, and those left that fit, are all that fit.
-- Assumes nothing.
use Prim.Native.Nat.{◌-◌, ◌/◌}
use lib.ListN.{length}
use Rattle.run_search.proofs.Loop.{Past}
use Rattle.run_search.proofs.through.FrameSearch.store_reports.Given as goal

abbrev pub invariant-loop-p : goal.invariant-loop-p
invariant-loop-p l = Past l.self.rule l.run l.initial.out (length l.initial.out / 2) l.n l.p l.out

abbrev pub decreases-loop-p : goal.decreases-loop-p
decreases-loop-p l = length l.run - l.p
