-- `answers::tell_analysis` meets its contract: the number of a result is 0.
-- Assumes nothing.
use mathlib.Core.Path.{sym, ap}
use Rattle.octets.specs.Answer.{answer_number}
use Rattle.answers.proofs.tell_analysis.Goals as goal

pub returns-in-Ok-clause-value : goal.returns-in-Ok-clause-value
returns-in-Ok-clause-value c = ap answer_number (sym c.in-Ok.is)
