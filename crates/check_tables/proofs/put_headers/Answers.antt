-- `check_tables::put_headers` meets its contract: the lines put so far and those from an entry on are all lines.
-- Assumes nothing.
use native.Mathlib.Omega.{arith}
use Rattle.octets.proofs.Puts.{put_size}
use Rattle.check_tables.proofs.Lines.{going_start, going_next, going_end}
use Rattle.check_tables.proofs.put_headers.Goals as goal

pub loop-i-init : goal.loop-i-init
loop-i-init c = going_start _ _ _ _ c.requires

pub loop-i-preserved : goal.loop-i-preserved
loop-i-preserved c =
    going_next _ _ _ _ c.requires c.loop-i.i (omega arith) c.loop-i.invariant
    (c.put_hex_2-behind.ensures.value, c.put_hex_2-behind.ensures.output) (c.put-behind.ensures.value, c.put-behind.ensures.output)

pub shape_of-out : goal.shape_of-out
shape_of-out c = put_size c.loop-i.invariant.put

pub returns : goal.returns
returns c = going_end _ _ _ _ c.loop-i.i (omega arith) c.loop-i.invariant
