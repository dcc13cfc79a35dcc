-- Findings put behind one another, test by test, are those of the tests.
-- Assumes nothing.
use mathlib.Core.Path.{◌≡◌, refl, sym, ap, ◌∙◌}
use mathlib.Core.Bool.{Bool, true, false}
use mathlib.Core.List.{List, [], ◌∷◌, ◌++◌}
use Prim.Native.Nat.{ℕ, zero, suc, ◌≤◌, ◌<◌}
use native.Mathlib.Omega.{arith}
use borrow.Author.Tests.{lt-ltb, le-ltb}
use lib.Dec.{eqb}
use lib.ListN.{length, take}
use Rattle.std.specs.Prelude.{Option, option_to_list}
use Rattle.std.proofs.lemmas.List.{take_all}
use Rattle.findings.specs.declared.error.ValidationError.{ValidationError}
use Rattle.findings.specs.declared.error.ValidationError.TheVariants.{FrameTooShort}
use Rattle.findings.specs.declared.warning.ValidationWarning.{ValidationWarning}
use Rattle.findings.specs.declared.LinkType.{LinkType}
use Rattle.findings.specs.declared.ValidationResult.{ValidationResult}
use Rattle.findings.specs.Result.{Test, finds, given, found, errors_of, warnings_of, validation_result}

module _ {F : Type 0} where
  -- what is taken of a front does not depend on what was cut off it
  take_front : (n : ℕ) (xs ys : List F) → take n (take n xs ++ ys) ≡ take n (xs ++ ys)
  take_front zero xs ys = refl
  take_front (suc n) [] ys = refl
  take_front (suc n) (x ∷ xs) ys = ap (λ (l : List F). x ∷ l) (take_front n xs ys)

  -- some tests and one behind them
  found_append : (tests : List (Test F)) (test : Test F) → found (tests ++ test ∷ []) ≡ found tests ++ option_to_list (given test)
  unfolding found
  found_append [] (finds true finding) = refl
  found_append [] (finds false finding) = refl
  found_append (finds true finding ∷ tests) test = ap (λ (l : List F). finding ∷ l) (found_append tests test)
  found_append (finds false finding ∷ tests) test = found_append tests test

  few : (tests : List (Test F)) → length (found tests) ≤ length tests
  unfolding found
  few [] = omega arith
  few (finds true finding ∷ tests) = omega (arith, few tests)
  few (finds false finding ∷ tests) = omega (arith, few tests)

-- a list of at most n: the findings of some tests
pub record Stored {F : Type 0} (n : ℕ) (tests : List (Test F)) (findings : List F) : Type 0 where
  pub are : findings ≡ take n (found tests)

module _ {F : Type 0} where
  pub none : {n : ℕ} {findings : List F} → findings ≡ [] → Stored n [] findings
  unfolding found
  none {n} e = record { are = e ∙ by n }
    where
      by : (n : ℕ) → [] ≡ take n (found {F = F} [])
      by zero = refl
      by (suc n) = refl

  -- a test more
  pub next : {n : ℕ} {tests : List (Test F)} {before after : List F} {finding : Option F} (test : Test F)
      → Stored n tests before → after ≡ take n (before ++ option_to_list finding) → finding ≡ given test → Stored n (tests ++ test ∷ []) after
  next {n} {tests} test s is-after is_finding = record {
    are = is-after ∙ rw (s.are, is_finding) (take_front n (found tests) _ ∙ ap (take n) (sym (found_append tests test)));
  }

  -- where there are not more tests than entries
  all : {n : ℕ} {findings : List F} (tests : List (Test F)) → Stored n tests findings → length tests ≤ n → findings ≡ found tests
  all {n} tests s room = s.are ∙ take_all n (found tests) (omega (arith, few tests))

-- what a validator answers where its tests are these and P is its promise of validity
module _ (link : Option LinkType) (size minimum : ℕ) (error_tests : List (Test ValidationError)) (warning_tests : List (Test ValidationWarning)) (P : Bool → Type 0)
    (promised : P (eqb (length (errors_of minimum size error_tests)) 0)) where
  abbrev Answer : ValidationResult → Type 0
  Answer r = (r ≡ validation_result link size (errors_of minimum size error_tests) (warnings_of minimum size warning_tests)) × P r.is_valid

  answer : {r : ValidationResult} → r ≡ validation_result link size (errors_of minimum size error_tests) (warnings_of minimum size warning_tests) → Answer r
  answer e = (e, rw e promised)

  -- too short: that alone
  pub short_answer : {r : ValidationResult} → size < minimum → r ≡ validation_result link size (FrameTooShort size minimum ∷ []) [] → Answer r
  unfolding errors_of warnings_of
  short_answer less is-r = answer (is-r ∙ rw (lt-ltb size minimum less))

  -- long enough: the findings of the tests
  pub stored_answer : {errors : List ValidationError} {warnings : List ValidationWarning} {n : ℕ} {r : ValidationResult} → minimum ≤ size
      → Stored 7 error_tests errors → length error_tests ≤ 7 → Stored 2 warning_tests warnings → length warning_tests ≤ 2 → n ≡ length errors
      → r ≡ (record {
        is_valid = eqb n 0;
        link_type = link;
        frame_size = size;
        errors = errors;
        warnings = warnings;
      })
      → Answer r
  unfolding errors_of warnings_of
  stored_answer long e few_errors w few_warnings many is-r =
      answer (is-r ∙ rw (many, le-ltb size minimum long, all error_tests e few_errors, all warning_tests w few_warnings))
