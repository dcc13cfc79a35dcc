-- What the functions for a whole reading answer and leave, with what they promise of the reports.
-- Assumes nothing.
use mathlib.Core.Path.{◌≡◌, refl, sym, ap, ap₂, subst, ◌∙◌}
use mathlib.Core.Bool.{true, false}
use mathlib.Core.List.{List, [], ◌∷◌, ◌++◌, flat_map}
use Prim.Native.Nat.{ℕ, ◌*◌, ◌/◌, ◌≤◌, ◌<◌}
use native.Mathlib.Omega.{arith}
use borrow.Author.Tests.{le-leb, lt-leb, leb-true, leb-false}
use lib.ListN.{length, take, drop}
use lib.Seq.{take_all}
use Rattle.std.specs.Prelude.{Result, Ok}
use Rattle.octets.specs.Refusal.{refused}
use Rattle.octets.specs.Output.{at_front}
use Rattle.octets.proofs.Outputs.{left_refused, left_written}
use Rattle.octets.proofs.Parts.{Octets, length_flat}
use Rattle.octets.proofs.Questions.{passed, failed, none_fails}
use Rattle.octets.proofs.Refusals.{accepts, fails}
use Rattle.crc.specs.declared.CheckRule.{CheckRule}
use Rattle.octets.specs.Size.{at_most_65535}
use Rattle.run_search.specs.declared.Report.{Report}
use Rattle.octets.specs.declared.refusal.Refusal.{Refusal}
use Rattle.run_finder.specs.Reading.{WholeReading, reading}
use Rattle.run_search.specs.Reports.{list_numbers}
use Rattle.run_search.specs.Search.{report_numbers}
use Rattle.run_reading.specs.Answer.{count_answer, CountOf, read_question, read_answer, read_output, reports_in, Handed, Counted}
use Rattle.run_finder.specs.Demand.{Demand3}
use Rattle.run_finder.proofs.Pass.{whole_reading}
use Rattle.run_finder.proofs.Demand.{demand_3}

-- a list's numbers are two for each report, and the reports whose numbers stand in front of a list are those that were written there
length_numbers : (rs : List Report) → length (list_numbers rs) ≡ 2 * length rs
unfolding list_numbers
length_numbers rs = length_flat report_numbers 2 (λ r. refl) rs

reports_back : (rs : List Report) (rest : List ℕ) → reports_in (length rs) (list_numbers rs ++ rest) ≡ rs
unfolding list_numbers flat_map
reports_back [] rest = refl
reports_back (r ∷ rs) rest = ap (λ (l : List Report). r ∷ l) (reports_back rs rest)

module _ (rule : CheckRule) (run : List ℕ) (octets : Octets run) where
  abbrev reports : List Report
  reports = reading rule run

  -- of `count_frames`: the answer, and the promises
  abbrev CountMeets : Result ℕ Refusal → Type 0
  CountMeets r = (r ≡ count_answer rule run) × (CountOf (WholeReading rule run) r × (Counted rule run r × Demand3 rule run reports))

  pub count_refused : at_most_65535 (length run) ≡ false → CountMeets (refused 31)
  unfolding count_answer
  count_refused long = (
    fails (length reports) 31 _ refl long,
    (tt, (λ passed. absurd (omega (arith, leb-true (length run) 65535 passed, leb-false (length run) 65535 long)), demand_3 rule run octets)),
  )

  pub counted : {n : ℕ} → at_most_65535 (length run) ≡ true → n ≡ length reports → CountMeets (Ok n)
  unfolding count_answer
  counted {n} fits all = (
    ap Ok all ∙ accepts (length reports) (none_fails _ (fits, tt)),
    (
      (reports, whole_reading rule run (leb-true (length run) 65535 fits) octets, sym all),
      (λ passed. ap Ok all, demand_3 rule run octets),
    ),
  )

  -- of `read_frames`: the answer, the lent list afterwards, and the promises
  module _ (out : List ℕ) where
    abbrev Promised : Result ℕ Refusal → List ℕ → Type 0
    Promised r l = Handed (WholeReading rule run) r l × Handed (Demand3 rule run) r l

    abbrev ReadMeets : Result ℕ Refusal → List ℕ → Type 0
    ReadMeets r l = (r ≡ read_answer rule run out) × ((l ≡ read_output rule run out) × Promised r l)

    refuses : {q : ℕ} → q ≡ read_question rule run out → (q ≡ 0 → ⊥) → ReadMeets (refused q) out
    unfolding read_answer read_output
    refuses asked fails =
        left_refused refused (Ok (length reports)) Promised (list_numbers reports) out (λ k. (tt, tt)) asked fails

    pub read_refused : at_most_65535 (length run) ≡ false → ReadMeets (refused 31) out
    unfolding read_question
    read_refused long = refuses (failed 31 _ long) (λ z. omega arith)

    module _ {n : ℕ} (fits : at_most_65535 (length run) ≡ true) (all : n ≡ length reports) where
      pub no_room : length out / 2 < n → ReadMeets (refused 32) out
      unfolding read_question
      no_room few =
          refuses (passed 31 _ fits (failed 32 _ (lt-leb (length (list_numbers reports)) (length out) (omega (arith, length_numbers reports)))))
          (λ z. omega arith)

      -- P holds of the reports that were handed over where it holds of all
      handed : (P : List Report → Type 0) {l : List ℕ} → l ≡ at_front (list_numbers reports) out → P reports → Handed P (Ok n) l
      unfolding at_front
      handed P front holds =
          subst P
          (sym (ap₂ (λ (i : ℕ) (s : List ℕ). reports_in i s) all front ∙ reports_back reports (drop (length (list_numbers reports)) out)))
          holds

      -- where all reports fit, those that fit are all
      pub read : {l : List ℕ} → n ≤ length out / 2 → l ≡ at_front (list_numbers (take (length out / 2) reports)) out → ReadMeets (Ok n) l
      unfolding read_answer read_output read_question
      read room firsts =
          let front = firsts ∙ ap (λ (rs : List Report). at_front (list_numbers rs) out) (take_all (length out / 2) reports (omega arith)) in
          let fit : length (list_numbers reports) ≤ length out = omega (arith, length_numbers reports) in
          let none : read_question rule run out ≡ 0 = none_fails _ (fits, (le-leb (length (list_numbers reports)) (length out) fit, tt)) in
          left_written refused (Ok (length reports)) Promised (list_numbers reports) out none (ap Ok all) front (
            handed (WholeReading rule run) front (whole_reading rule run (leb-true (length run) 65535 fits) octets),
            handed (Demand3 rule run) front (demand_3 rule run octets),
          )
