-- `ethernet_encode::encode` meets its contract: two questions, then the header, the payload and the zeros one behind another.
-- Assumes nothing.
use mathlib.Core.Path.{◌≡◌}
use lib.ListN.{length}
use native.Mathlib.Omega.{arith}
use Rattle.ethernet_encode.proofs.Encodes.{too_long, no_room, all_written}
use Rattle.ethernet_encode.proofs.encode.Goals.{Start}
use Rattle.ethernet_encode.proofs.encode.Goals as goal

-- the arrays have six octets
destination-six : (c : goal.Start) → length c.args.dest_mac ≡ 6
destination-six c = omega (arith, c.well_formed)

source-six : (c : goal.Start) → length c.args.src_mac ≡ 6
source-six c = omega (arith, c.well_formed)

pub returns-then-body-gt-MAX_PAYLOAD_SIZE : goal.returns-then-body-gt-MAX_PAYLOAD_SIZE
returns-then-body-gt-MAX_PAYLOAD_SIZE c =
    let start = (goal.at.returns-then-body-gt-MAX_PAYLOAD_SIZE c).Start in
    let all = too_long _ _ _ _ _ (destination-six start) (source-six start) c.if-body-gt-MAX_PAYLOAD_SIZE.true in
    record { value = all.0; output = all.1.0; back = all.1.1.0; anew = all.1.1.1.0; edges = all.1.1.1.1 }

pub returns-then-out-size : goal.returns-then-out-size
returns-then-out-size c =
    let start = (goal.at.returns-then-out-size c).Start in
    let all = no_room _ _ _ _ _ (destination-six start) (source-six start) c.if-body-gt-MAX_PAYLOAD_SIZE.false (omega (arith, c.max-size.ensures)) c.if-out-size.true in
    record { value = all.0; output = all.1.0; back = all.1.1.0; anew = all.1.1.1.0; edges = all.1.1.1.1 }

pub returns : goal.returns
returns c =
    let start = (goal.at.returns c).Start in
    let all = all_written _ _ _ _ _ (destination-six start) (source-six start) c.if-body-gt-MAX_PAYLOAD_SIZE.false (omega (arith, c.max-size.ensures))
    c.if-out-size.false c.field.ensures c.write_header.ensures c.copy_from_slice.ensures.after (c.fill.ensures.after (λ y e. e)) in
    record { value = all.0; output = all.1.0; back = all.1.1.0; anew = all.1.1.1.0; edges = all.1.1.1.1 }
