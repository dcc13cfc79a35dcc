-- `mstp_encode::encode` meets its contract: behind two questions, the header and the data one behind the other.
-- Assumes nothing.
use native.Mathlib.Omega.{arith}
use Rattle.mstp_encode.proofs.Encodes.{data_fits, all_written}
use Rattle.mstp_encode.proofs.encode.Goals as goal

pub put_data-requires : goal.put_data-requires
put_data-requires c =
    let a = c.args in
    data_fits a.rule a.frame_type a.destination a.source a.body.now a.out.now (omega arith) c.frame_size.ensures.value (omega arith) c.put_header-at.ensures

pub returns : goal.returns
returns c =
    let all = all_written _ _ _ _ _ _ (omega arith) c.frame_size.ensures.value (omega arith) c.put_header-at.ensures
    (omega arith) (omega arith) (λ i. (c.type_inv.body i).fits) c.put_data.ensures in
    record { value = all.value; output = all.output; back = all.back; written = all.written }
