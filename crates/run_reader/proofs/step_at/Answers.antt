-- `run_reader::step_at` meets its contract: a report ends within the run, so the place behind it is a `usize`.
-- Assumes nothing.
use native.Mathlib.Omega.{arith}
use Rattle.std.proofs.lemmas.Result.{IfOk-at_ok}
use Rattle.run_reader.proofs.step_at.Goals as goal

pub overflow_add-next : goal.overflow_add-next
overflow_add-next c =
    let found = IfOk-at_ok _ c.in-Ok-Some.is c.find_frame-found.ensures.plain in
    record { fits = omega (arith, (found.reported c.in-Ok-Some.report (rw c.in-Ok-Some.is at c.in-Ok-Some.field-0-is)).inside) }
