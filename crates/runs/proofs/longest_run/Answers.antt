-- `runs::longest_run` meets its contract: of the octets passed, the longest run and the run that they end with are known.
-- Assumes nothing.
use native.Mathlib.Omega.{arith}
use Rattle.std.proofs.Common.{◌≡◌, ◌+◌, length, take}
use Rattle.runs.specs.Longest.{last_run}
use Rattle.runs.proofs.Walk.{length_fits, last_on, last_new, longest_new, longest_on, found}
use Rattle.runs.proofs.longest_run.Goals.{Joined-x-last, then-x-last, else-x-last, then-longest-last, else-longest-last}
use Rattle.runs.proofs.longest_run.Goals as goal

pub overflow_add-last : goal.overflow_add-last
overflow_add-last c = omega (arith, length_fits _ _ c.loop-i-test.true c.loop-i.invariant.1)

pub loop-i-preserved : goal.loop-i-preserved
loop-i-preserved c =
    let h = c.loop-i-test.true in
    let last : c.if-x-last.last ≡ last_run (take (c.loop-i.i + 1) c.args.s.now) = elim c.if-x-last.branch [
      | then-x-last w ↦ rw w.last-is (last_on _ _ h c.loop-i.invariant.1 w.if-x-last.true)
      | else-x-last w ↦ rw w.last-is (last_new _ _ h c.loop-i.invariant.1 w.if-x-last.false)
    ] in (
      elim c.if-longest-last.branch [
        | then-longest-last w ↦ rw w.longest-is (longest_new _ _ h c.loop-i.invariant.0 last w.if-longest-last.true)
        | else-longest-last w ↦ rw w.longest-is (longest_on _ _ h c.loop-i.invariant.0 last w.if-longest-last.false)
      ],
      last,
    )

pub returns : goal.returns
returns c =
    let ends : c.loop-i.i ≡ length c.args.s.now = omega arith in
    let all = found _ (rw ends at c.loop-i.invariant.0) in
    record { value = all.0; longest = all.1.0; only = all.1.1.0; example = all.1.1.1 }
