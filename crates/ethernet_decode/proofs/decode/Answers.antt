-- `ethernet_decode::decode` meets its contract: where no question fails, the addresses are copied.
-- Assumes nothing.
use mathlib.Core.Path.{sym}
use Prim.Native.Nat.{◌≤◌}
use native.Mathlib.Omega.{arith}
use lib.ListN.{length}
use lib.Seq.{length-take-le}
use Rattle.std.proofs.lemmas.Result.{err_from_is_err_and}
use Rattle.octets.proofs.Refusals.{accepts, none_failed, handed_on}
use Rattle.ethernet_decode.specs.Decode.{decode}
use Rattle.ethernet_decode.proofs.Frames.{facts}
use Rattle.ethernet_decode.proofs.Answers.{decoded}
use Rattle.ethernet_decode.proofs.decode.Goals.{In_ok-payload_length}
use Rattle.ethernet_decode.proofs.decode.Goals as goal

-- past the questions there are 17 octets at least
long : (c : goal.In_ok-payload_length) → 17 ≤ length c.args.frame.now
long c = (facts _ _ (none_failed _ _ c.length_of.ensures c.in_ok-payload_length.was).0).long

pub returns-in_err-payload_length : goal.returns-in_err-payload_length
unfolding decode
returns-in_err-payload_length c =
    let p = err_from_is_err_and c.from_residual.result c.from_residual.ensures.1 in
    let all = decoded _ _ (λ i. (c.type_inv.frame i).fits) (rw (p.1, p.2) (handed_on _ _ c.length_of.ensures _ c.in_err-payload_length.was)) in
    record { value = all.0; back = all.1.0; whole = all.1.1.0; only = all.1.1.1 }

pub slice_bounds-copy_from_slice-end-2 : goal.slice_bounds-copy_from_slice-end-2
slice_bounds-copy_from_slice-end-2 c =
    sym (length-take-le 6 c.args.frame.now (omega (arith, long (goal.at.slice_bounds-copy_from_slice-end-2 c).In_ok-payload_length)))

pub copy_from_slice-requires : goal.copy_from_slice-requires
copy_from_slice-requires c =
    sym (length-take-le 6 _ (omega (arith, long (goal.at.copy_from_slice-requires c).In_ok-payload_length)))

pub slice_bounds-copy_from_slice-end-4 : goal.slice_bounds-copy_from_slice-end-4
slice_bounds-copy_from_slice-end-4 c = omega (arith, long (goal.at.slice_bounds-copy_from_slice-end-4 c).In_ok-payload_length)

pub returns : goal.returns
unfolding decode
returns c =
    let f = none_failed _ _ c.length_of.ensures c.in_ok-payload_length.was in
    let all = decoded _ _ (λ i. (c.type_inv.frame i).fits)
    (rw (c.copy_from_slice.ensures.after, c.copy_from_slice-2.ensures.after, f.1) (accepts _ f.0)) in
    record { value = all.0; back = all.1.0; whole = all.1.1.0; only = all.1.1.1 }
