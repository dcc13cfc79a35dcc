-- `run_search::through::FrameSearch::store_reports` meets its contract: the numbers stored, and those left that fit, are all that fit.
-- Assumes nothing.
use Prim.Native.Nat.{◌+◌, ◌≤◌, ◌<◌}
use native.Mathlib.Omega.{arith}
use Rattle.run_search.proofs.Loop.{on, behind, past_all}
use Rattle.run_search.proofs.through.FrameSearch.store_reports.Goals.{After-size_at-size, then-n-out, else-n-out}
use Rattle.run_search.proofs.through.FrameSearch.store_reports.Goals as goal

-- the frame ends within the run, and is one more than were counted
turn : (c : goal.After-size_at-size) → let l = c.loop-p in (l.p + c.size_at-size.result ≤ 65535) × (l.n < 65535)
turn c = on c.loop-p.invariant c.loop-p-test.true c.size_at-size.ensures

pub store-requires : goal.store-requires
store-requires c = (omega arith, (turn (goal.at.store-requires c).After-size_at-size).0)

pub overflow_add-n : goal.overflow_add-n
overflow_add-n c = omega (arith, turn (goal.at.overflow_add-n c).After-size_at-size)

pub overflow_add-p : goal.overflow_add-p
overflow_add-p c = omega (arith, turn (goal.at.overflow_add-p c).After-size_at-size)

pub loop-p-smaller : goal.loop-p-smaller
loop-p-smaller c = omega (arith, behind c.loop-p.invariant c.loop-p-test.true c.size_at-size.ensures c.next_frame-p-in-loop-p.ensures)

pub returns : goal.returns
returns c =
    let all = past_all c.loop-p.invariant c.loop-p-test.false in
    record { value = all.0; output = all.1 }
