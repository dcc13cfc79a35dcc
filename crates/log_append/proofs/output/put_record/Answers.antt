-- `log_append::output::put_record` meets its contract: the octets are put, and behind them the time and the trailer.
-- Assumes nothing.
use mathlib.Core.List.{◌++◌}
use native.Mathlib.Omega.{arith}
use lib.ListN.{length, length-append}
use Rattle.octets.proofs.Puts.{put_calls}
use Rattle.log_record.specs.Kind.{kind_number}
use Rattle.log_record.specs.Record.{time_octets, kind_octet, trailer, record_octets}
use Rattle.log_append.proofs.output.put_record.Goals as goal

pub returns : goal.returns
unfolding record_octets
returns c =
    let xs = c.args.payload.now in
    let time = time_octets c.args.time in
    let ys = trailer (kind_octet (kind_number c.args.kind) c.args.time) (length xs) in
    put_calls xs (time ++ ys) _ _ (omega (arith, c.requires.1, length-append xs (time ++ ys), length-append time ys))
    c.put-behind.ensures.value c.put-behind.ensures.output c.put_behind.ensures.value c.put_behind.ensures.output
