-- `run_reading::read_frames` meets its contract: the questions, then the stores; the promises are those of any run.
-- Assumes nothing.
use mathlib.Core.Path.{◌≡◌, sym, ◌∙◌}
use mathlib.Core.Bool.{true}
use Prim.Native.Nat.{ℕ, ◌/◌, ◌≤◌}
use native.Mathlib.Omega.{arith}
use borrow.Author.Tests.{leb-true}
use lib.ListN.{length}
use Rattle.octets.specs.Size.{at_most_65535}
use Rattle.run_finder.specs.Reading.{reading}
use Rattle.run_finder.proofs.Pass.{reading_reports, few_reports}
use Rattle.run_reading.proofs.Answers.{read_refused, no_room, read}
use Rattle.run_reading.proofs.read_frames.Goals.{Else-not-at_most_65535, Joined-else-out-run, else-out-run-via-then-out-run+else-out-count_reports, else-out-run-via-else-out-run}
use Rattle.run_reading.proofs.read_frames.Goals as goal

fits : (c : goal.Else-not-at_most_65535) → at_most_65535 (length c.args.run.now) ≡ true
fits c = sym c.at_most_65535.ensures ∙ c.if-not-at_most_65535.false

-- all reports fit: they were counted, or the list has room for one in every 8 octets
room : (c : goal.Joined-else-out-run) → let a = c.args in length (reading a.rule a.run.now) ≤ length a.out.now / 2
room c =
    let a = c.args in
    let few = leb-true (length a.run.now) 65535 (sym c.at_most_65535.ensures ∙ c.if-not-at_most_65535.false) in
    elim c.else-out-run.branch [
      | else-out-run-via-then-out-run+else-out-count_reports w ↦ omega arith
      | else-out-run-via-else-out-run w ↦ omega (arith, few_reports a.rule a.run.now few (λ i. (c.type_inv.run i).fits))
    ]

pub returns-then-not-at_most_65535 : goal.returns-then-not-at_most_65535
returns-then-not-at_most_65535 c =
    let all = read_refused _ _ (λ i. (c.type_inv.run i).fits) _ (sym c.at_most_65535.ensures ∙ c.if-not-at_most_65535.true) in
    record { value = all.0; output = all.1.0; calls = all.1.1.0; demand = all.1.1.1 }

pub count_reports-requires : goal.count_reports-requires
count_reports-requires c = leb-true _ 65535 (fits (goal.at.count_reports-requires c).Else-not-at_most_65535)

pub returns-then-out-count_reports : goal.returns-then-out-count_reports
returns-then-out-count_reports c =
    let all = no_room _ _ (λ i. (c.type_inv.run i).fits) _ (fits (goal.at.returns-then-out-count_reports c).Else-not-at_most_65535) c.count_reports.ensures (omega arith) in
    record { value = all.0; output = all.1.0; calls = all.1.1.0; demand = all.1.1.1 }

pub returns : goal.returns
returns c =
    let known = λ (i : ℕ). (c.type_inv.run i).fits in
    let a = c.args in
    let whole = reading_reports a.rule a.run.now (leb-true _ 65535 (fits (goal.at.returns c).Else-not-at_most_65535)) known in
    let counted = rw (← whole) at c.store_reports.ensures.value in
    let all = read _ _ known _ (fits (goal.at.returns c).Else-not-at_most_65535) counted (omega (arith, room (goal.at.returns c).Joined-else-out-run, counted)) (rw (← whole) at c.store_reports.ensures.output) in
    record { value = all.0; output = all.1.0; calls = all.1.1.0; demand = all.1.1.1 }
