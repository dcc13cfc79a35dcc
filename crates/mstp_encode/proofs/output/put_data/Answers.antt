-- `mstp_encode::output::put_data` meets its contract: the data, and their check behind them.
-- Assumes nothing.
use mathlib.Core.Path.{◌≡◌, sym, ◌∙◌}
use mathlib.Core.List.{◌++◌}
use Prim.Native.Nat.{◌+◌, ◌/◌, ◌%◌, ◌≤◌}
use native.Mathlib.Omega.{arith}
use borrow.Author.Tests.{eqb-true, eqb-false}
use lib.ListN.{length}
use Rattle.octets.specs.Number.{low_first}
use Rattle.octets.proofs.Puts.{put_calls, put_is, put_nothing}
use Rattle.mstp_encode.proofs.Encodes.{no_data, some_data}
use Rattle.mstp_encode.proofs.output.put_data.Goals as goal

pub returns-then-is_empty : goal.returns-then-is_empty
returns-then-is_empty c =
    put_is (sym (no_data c.args.rule c.args.body.now (eqb-true _ 0 (sym c.is_empty.ensures ∙ c.if-is_empty.true))))
    (put_nothing c.args.out.now c.args.at (omega (arith, c.requires)))

pub returns : goal.returns
returns c =
    let sent : c.to_le_bytes.result ≡ low_first c.crc16_mstp-check.result
    = let high : c.crc16_mstp-check.result / 256 % 256 ≡ c.crc16_mstp-check.result / 256 = omega arith in c.to_le_bytes.ensures ∙ rw high in
    let octets = some_data c.args.rule c.args.body.now (eqb-false _ 0 (sym c.is_empty.ensures ∙ c.if-is_empty.false)) c.crc16_mstp-check.ensures sent in
    let room : c.args.at + length (c.args.body.now ++ c.to_le_bytes.result) ≤ length c.args.out.now = rw (← octets) c.requires in
    put_is (sym octets)
    (put_calls c.args.body.now _ c.args.out.now c.args.at room c.put-behind.ensures.value c.put-behind.ensures.output c.put.ensures.value c.put.ensures.output)
