-- `run_reader::reports::FrameReportsIterator::next` meets its contract: what the finder finds is the first of the reports that are left.
-- Assumes nothing.
use mathlib.Core.Path.{refl, sym, ◌∙◌}
use native.Mathlib.Omega.{arith}
use Rattle.std.proofs.lemmas.Result.{IfOk-at_ok}
use Rattle.run_reader.proofs.Left.{left_refused}
use Rattle.run_reader.proofs.reports.FrameReportsIterator.next.Goals as goal

pub returns-in_default-2-clause-steps : goal.returns-in_default-2-clause-steps
returns-in_default-2-clause-steps c =
    let none = left_refused _ _ _ (sym c.find_frame.ensures.value ∙ c.in_default.is) in ((none, none), refl)

pub overflow_add-self : goal.overflow_add-self
overflow_add-self c =
    let found = IfOk-at_ok _ c.in-Ok-Some.is c.find_frame.ensures.plain in
    record { fits = omega (arith, (found.reported c.in-Ok-Some.report c.in-Ok-Some.field-0-is).inside) }
