-- `mstp_decode::frame_data` meets its contract: the questions decide between no octets and the part behind the header.
-- Assumes nothing.
use mathlib.Core.Path.{refl}
use Rattle.mstp_decode.proofs.Answers.{data_refused, data_accepted}
use Rattle.mstp_decode.proofs.frame_data.Goals as goal

pub returns-in-Err : goal.returns-in-Err
returns-in-Err c =
    let all = data_refused _ _ c.in-Err.ensures refl in
    record { result_value = all.0; whole = all.1 }

pub returns-in-Ok : goal.returns-in-Ok
returns-in-Ok c =
    let all = data_accepted _ _ c.in-Ok.ensures refl c.data_part.ensures in
    record { result_value = all.0; whole = all.1 }
