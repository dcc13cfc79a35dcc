-- `octets::put` meets its contract: a copy into the part from the place on, where there is room.
-- Assumes nothing.
use mathlib.Core.Path.{sym, ◌∙◌}
use Prim.Native.Nat.{◌+◌, ◌≤◌}
use native.Mathlib.Omega.{arith}
use lib.ListN.{length}
use Rattle.octets.proofs.Puts.{put_part, put_there, put_none}
use Rattle.octets.proofs.put.Goals as goal

pub returns-then-out-at : goal.returns-then-out-at
returns-then-out-at c =
    let all = put_none c.args.octets.now c.args.out.now c.args.at (omega (arith, c.if-out-at.true)) in
    record { value = all.0; output = all.1 }

pub returns-then-out-at-2 : goal.returns-then-out-at-2
returns-then-out-at-2 c =
    let all = put_none c.args.octets.now c.args.out.now c.args.at (omega (arith, c.if-out-at-2.true, c.if-out-at.false)) in
    record { value = all.0; output = all.1 }

pub returns : goal.returns
returns c =
    let room : c.args.at + length c.args.octets.now ≤ length c.args.out.now = omega (arith, c.if-out-at-2.false) in
    let there = put_there c.args.octets.now c.args.out.now c.args.at room in
    record {
      value = sym there.0;
      output = put_part c.args.octets.now c.args.out.now c.args.at room c.copy_from_slice.ensures.after ∙ sym there.1;
    }
