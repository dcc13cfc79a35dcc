-- `run_reading::count_frames` meets its contract: question 31, then the count; the promises are those of any run.
-- Assumes nothing.
use mathlib.Core.Path.{◌≡◌, sym, ◌∙◌}
use mathlib.Core.Bool.{true}
use borrow.Author.Tests.{leb-true}
use lib.ListN.{length}
use Rattle.octets.specs.Size.{at_most_65535}
use Rattle.run_reading.proofs.Answers.{count_refused, counted}
use Rattle.run_reading.proofs.count_frames.Goals.{Else-not-at_most_65535}
use Rattle.run_reading.proofs.count_frames.Goals as goal

fits : (c : goal.Else-not-at_most_65535) → at_most_65535 (length c.args.run.now) ≡ true
fits c = sym c.at_most_65535.ensures ∙ c.if-not-at_most_65535.false

pub returns-then-not-at_most_65535 : goal.returns-then-not-at_most_65535
returns-then-not-at_most_65535 c =
    let all = count_refused _ _ (λ i. (c.type_inv.run i).fits) (sym c.at_most_65535.ensures ∙ c.if-not-at_most_65535.true) in
    record { value = all.0; calls = all.1.0; covered = all.1.1.0; demand = all.1.1.1 }

pub count_reports-requires : goal.count_reports-requires
count_reports-requires c = leb-true _ 65535 (fits c)

pub returns : goal.returns
returns c =
    let all = counted _ _ (λ i. (c.type_inv.run i).fits) (fits (goal.at.returns c).Else-not-at_most_65535) c.count_reports.ensures in
    record { value = all.0; calls = all.1.0; covered = all.1.1.0; demand = all.1.1.1 }
