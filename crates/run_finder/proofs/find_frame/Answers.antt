-- `run_finder::find_frame` meets its contract: the questions, then the place that `next_frame` gives and the octet count there.
-- Assumes nothing.
use mathlib.Core.Path.{◌≡◌, sym, ap, ◌∙◌}
use Prim.Native.Nat.{ℕ, ◌≤◌}
use borrow.Author.Tests.{leb-true, leb-false}
use lib.ListN.{length}
use Rattle.std.specs.Prelude.{Some, Ok}
use Rattle.run_search.specs.Search.{report, search_from}
use Rattle.run_finder.specs.Find.{find}
use Rattle.run_finder.proofs.Answers.{answers}
use Rattle.run_finder.proofs.Finds.{too_long, beyond, find_search}
use Rattle.run_search.proofs.Next.{Next, next}
use Rattle.run_finder.proofs.find_frame.Goals.{After-next_frame-p, Else-not-at_most_65535}
use Rattle.run_finder.proofs.find_frame.Goals as goal

-- past question 31
fits : (c : goal.Else-not-at_most_65535) → length c.args.run.now ≤ 65535
fits c = leb-true _ 65535 (sym c.at_most_65535.ensures ∙ c.if-not-at_most_65535.false)

-- the finder's answer is the search's
found : (c : goal.After-next_frame-p)
    → let a = c.args in
    find a.rule a.run.now a.place ≡ Ok (search_from a.rule a.run.now a.place).found
found c = find_search _ _ (leb-true _ 65535 (sym c.at_most_65535.ensures ∙ c.if-not-at_most_65535.false)) _ c.if-run-place.false

-- what the place means
means : (c : goal.After-next_frame-p)
    → let a = c.args in
    Next a.rule a.run.now a.place c.next_frame-p.result
means c = next _ _ (λ i. (c.type_inv.run i).fits) _ c.next_frame-p.ensures

pub returns-then-not-at_most_65535 : goal.returns-then-not-at_most_65535
returns-then-not-at_most_65535 c =
    let all = answers _ _ (λ i. (c.type_inv.run i).fits) _
    (too_long _ _ _ (leb-false _ 65535 (sym c.at_most_65535.ensures ∙ c.if-not-at_most_65535.true))) in
    record { value = all.0; plain = all.1.0; calls = all.1.1.0; example = all.1.1.1 }

pub returns-then-run-place : goal.returns-then-run-place
returns-then-run-place c =
    let all = answers _ _ (λ i. (c.type_inv.run i).fits) _ (beyond _ _ (fits (goal.at.returns-then-run-place c).Else-not-at_most_65535) _ c.if-run-place.true) in
    record { value = all.0; plain = all.1.0; calls = all.1.1.0; example = all.1.1.1 }

pub returns-then-p-run : goal.returns-then-p-run
returns-then-p-run c =
    let all = answers _ _ (λ i. (c.type_inv.run i).fits) _
    (ap (λ (n : ℕ). Ok (Some (report c.next_frame-p.result n))) c.size_at.ensures ∙ sym (found (goal.at.returns-then-p-run c).After-next_frame-p ∙ ap Ok ((means (goal.at.returns-then-p-run c).After-next_frame-p).frame c.if-p-run.true))) in
    record { value = all.0; plain = all.1.0; calls = all.1.1.0; example = all.1.1.1 }

pub returns : goal.returns
returns c =
    let all = answers _ _ (λ i. (c.type_inv.run i).fits) _ (sym (found (goal.at.returns c).After-next_frame-p ∙ ap Ok ((means (goal.at.returns c).After-next_frame-p).none c.if-p-run.false))) in
    record { value = all.0; plain = all.1.0; calls = all.1.1.0; example = all.1.1.1 }
