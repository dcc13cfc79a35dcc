-- `lefkanu::lefkanu_validate_bacnet_ip_frame` meets its contract: the numbers are those of the result, which is known where there are no findings.
-- Assumes nothing.
use mathlib.Core.Path.{sym, ap, ◌∙◌}
use Rattle.result_numbers.specs.Layout.{result_numbers}
use Rattle.validation_ip.proofs.NoFindings.{clean_message}
use Rattle.lefkanu.proofs.validators.lefkanu_validate_bacnet_ip_frame.Goals as goal

pub returns-then-faultless : goal.returns-then-faultless
returns-then-faultless c =
    c.clean_numbers.ensures
    ∙ ap result_numbers (clean_message _ (sym c.faultless.ensures ∙ c.if-faultless.true))
