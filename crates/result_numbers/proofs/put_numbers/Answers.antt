-- `result_numbers::put_numbers` meets its contract: the numbers in front and those of the entries are the definition's.
-- Assumes nothing.
use mathlib.Core.Path.{ap, ◌∙◌}
use Rattle.std.proofs.Common.{rules}
use Rattle.result_numbers.specs.Layout.{result_numbers}
use Rattle.result_numbers.proofs.Layouts.{laid_out}
use Rattle.result_numbers.proofs.put_numbers.Goals as goal

pub returns : goal.returns
returns c =
    laid_out _ _ _ _ _ c.one_if.ensures.0 (c.from.ensures ∙ c.link_number.ensures) c.len.ensures.value c.len.ensures.fits c.len-2.ensures.value c.len-2.ensures.fits
    c.found.ensures c.put_entries.ensures c.found-2.ensures c.put_entries-2.ensures (search rules) (search rules)
    ∙ ap result_numbers c.res.view_is
