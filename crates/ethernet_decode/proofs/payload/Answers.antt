-- `ethernet_decode::payload` meets its contract: the part that the form counts, or no octets where a question fails.
-- Assumes nothing.
use mathlib.Core.Path.{ap}
use Prim.Native.Nat.{ℕ, ◌+◌, ◌≤◌}
use native.Mathlib.Omega.{arith}
use lib.ListN.{length}
use Rattle.octets.proofs.Refusals.{none_failed, one_failed}
use Rattle.ethernet_decode.proofs.Frames.{facts}
use Rattle.ethernet_decode.proofs.Answers.{payload_refused, payload_accepted}
use Rattle.ethernet_decode.proofs.payload.Goals as goal

-- the payload ends within the octets
within : (c : goal.In-Ok) → 17 + c.in-Ok.length ≤ length c.args.frame.now
within c =
    let f = none_failed _ _ c.length_of.ensures c.in-Ok.is in
    rw f.1 (facts _ _ f.0).enough

pub overflow_add-result : goal.overflow_add-result
overflow_add-result c = omega (arith, within c)

pub slice_bounds-result-end : goal.slice_bounds-result-end
slice_bounds-result-end c = within c

pub returns-in-Ok : goal.returns-in-Ok
returns-in-Ok c =
    let f = none_failed _ _ c.length_of.ensures c.in-Ok.is in
    let all = payload_accepted _ _ f.0 (ap (λ (n : ℕ). 17 + n) f.1) in
    record { result_value = all.0; whole = all.1 }

pub returns-in-Err : goal.returns-in-Err
returns-in-Err c =
    let all = payload_refused _ _ (one_failed _ _ c.length_of.ensures c.in-Err.is).0 in
    record { result_value = all.0; whole = all.1 }
