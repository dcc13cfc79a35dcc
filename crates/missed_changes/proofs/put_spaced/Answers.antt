-- `missed_changes::put_spaced` meets its contract: the first octet, then those put so far and those from a place on.
-- Assumes nothing.
use Rattle.missed_changes.proofs.Spaced.{going_start, going_next, going_end, room_left}
use Rattle.missed_changes.proofs.put_spaced.Goals as goal

pub loop-octet-init : goal.loop-octet-init
loop-octet-init c = going_start _ _ _ (room_left c.args.s.now _ _ c.requires.s_in_bounds (c.put_hex_2-behind.ensures.value, c.put_hex_2-behind.ensures.output))

pub loop-octet-preserved : goal.loop-octet-preserved
loop-octet-preserved c =
    going_next _ _ _ (room_left c.args.s.now _ _ c.requires.s_in_bounds (c.put_hex_2-behind.ensures.value, c.put_hex_2-behind.ensures.output)) c.loop-octet.octet-index c.loop-octet-test.true c.loop-octet.invariant
    (c.put-behind.ensures.value, c.put-behind.ensures.output) (c.put_hex_2-behind-in-loop-octet.ensures.value, c.put_hex_2-behind-in-loop-octet.ensures.output)

pub returns : goal.returns
returns c =
    going_end c.args.s.now _ _ c.requires.s_in_bounds (c.put_hex_2-behind.ensures.value, c.put_hex_2-behind.ensures.output) c.loop-octet.octet-index c.loop-octet-test.false
    c.loop-octet.invariant
