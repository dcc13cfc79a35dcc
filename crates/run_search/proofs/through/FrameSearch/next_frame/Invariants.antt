-- `run_search::through::FrameSearch::next_frame` meets its contract: from 55 to 55, the search from here finds what the search from the first place finds.
-- Assumes nothing.
use Prim.Native.Nat.{◌-◌}
use mathlib.Core.Path.{◌≡◌}
use lib.ListN.{length}
use Rattle.run_search.specs.Search.{search_from}
use Rattle.run_search.proofs.through.FrameSearch.next_frame.Given as goal

abbrev pub invariant-loop-p : goal.invariant-loop-p
invariant-loop-p l = (search_from l.self.rule l.run l.from).found ≡ (search_from l.self.rule l.run l.p).found

abbrev pub decreases-loop-p : goal.decreases-loop-p
decreases-loop-p l = length l.run - l.p
