-- `mstp_encode::output::put_header` meets its contract: the eight octets of the local array are the header.
-- Assumes nothing.
use mathlib.Core.Path.{◌≡◌}
use Prim.Native.Nat.{◌/◌, ◌%◌}
use native.Mathlib.Omega.{arith}
use lib.ListN.{get_or}
use Rattle.octets.proofs.Puts.{put_call, put_is}
use Rattle.mstp_encode.proofs.Encodes.{header_is}
use Rattle.mstp_encode.proofs.output.put_header.Goals as goal

pub returns : goal.returns
returns c =
    let a = c.args in
    let high : get_or c.to_be_bytes.result 0 0 ≡ a.n / 256 = rw c.to_be_bytes.ensures (omega (arith, c.ranges.n.fits)) in
    let low : get_or c.to_be_bytes.result 1 0 ≡ a.n % 256 = rw c.to_be_bytes.ensures in
    put_is (header_is a.rule a.frame_type a.destination a.source a.n c.from-number.ensures.0 high low c.calculate_header_crc-check.ensures.value)
    (put_call _ a.out.now 0 c.requires c.put.ensures.value c.put.ensures.output)
