-- A frame without findings: no test fires, and its result is the one without any.
-- Assumes nothing.
use mathlib.Core.Path.{◌≡◌, sym, ap, ◌∙◌}
use mathlib.Core.Bool.{Bool, true, cond, not, ◌&&◌, ◌||◌, and_assoc}
use mathlib.Core.List.{List, []}
use Prim.Native.Nat.{ℕ, zero, suc}
use native.Mathlib.Omega.{arith}
use borrow.Author.Tests.{ne_eqb}
use lib.Dec.{eqb, leb, ltb}
use lib.ListN.{length}
use Rattle.std.specs.Prelude.{Some, Result, is_ok}
use Rattle.std.proofs.lemmas.Bool.Decides.{nat_tests}
use Rattle.octets.specs.Question.{first_no, answered}
use Rattle.octets.specs.Range.{within}
use Rattle.octets.specs.Refusal.{result_of}
use Rattle.octets.specs.declared.refusal.Refusal.{Refusal}
use Rattle.crc.specs.declared.CheckRule.{CheckRule}
use Rattle.mstp_frame.specs.Fields.{preamble, frame_type, source_of, data_length}
use Rattle.mstp_decode.specs.Decode.{header_check_right, data_check_right, checks_question}
use Rattle.findings.specs.declared.LinkType.TheVariants.{MsTP}
use Rattle.findings.specs.Result.{validation_result, faultless}
use Rattle.findings.proofs.NoFindings.{clean, faultless_is}
use Rattle.findings.proofs.Quiet.{quiet, valid_is}
use Rattle.validation_mstp.specs.Tests.{data_check_there, data_check_test, error_tests, warning_tests, mstp_errors, errorless, mstp_warnings, mstp_result}

-- the last three tests fire where a check of reading fails
checks : (sent right size n length data_sent data_right : ℕ)
    → not (not (eqb sent right)) && (not (not (eqb size n)) && (not ((ltb 0 length && leb size n) && not (eqb data_sent data_right)) && true))
    ≡ eqb (cond (eqb right sent) (cond (eqb n size) (cond (eqb length 0 || eqb data_right data_sent) 0 6) 5) 4) 0
checks sent right size n length data_sent data_right = grind (arith, nat_tests)

-- the first tests, as what does not fire
first : (long reserved last : Bool) (preamble source length : ℕ)
    → long && (not (not (eqb preamble 0x55FF)) && (not reserved && (not (eqb source 255) && (not (ltb 501 length) && last))))
    ≡ long && (eqb preamble 0x55FF && (not reserved && (not (eqb source 255) && (leb length 501 && last))))
first long reserved last preamble source length = grind (arith, nat_tests)

-- there is an answer where no question fails
pub answered_is : (q : ℕ) {r : Result (Unit {0}) Refusal} → r ≡ result_of q tt → is_ok r ≡ eqb q 0
unfolding answered
answered_is zero e = ap is_ok e
answered_is (suc q) e = ap is_ok e ∙ sym (ne_eqb (suc q) 0 (λ z. omega arith))

module _ (rule : CheckRule) (s : List ℕ) where
  -- a frame has no error where it has eight octets, the first tests do not fire, and no check fails
  pub errorless_is : errorless rule s
      ≡ leb 8 (length s) && (eqb (preamble s) 0x55FF && (not (within 8 127 (frame_type s)) && (not (eqb (source_of s) 255) && (leb (data_length s) 501 && eqb (checks_question rule s) 0))))
  unfolding mstp_errors error_tests data_check_test data_check_there checks_question header_check_right data_check_right first_no
  errorless_is = valid_is (length s) 8 (error_tests rule s) ∙ rw (checks, first)

  -- it gives no finding where no test of warnings fires either
  pub faultless_frame : errorless rule s && quiet (warning_tests rule s) ≡ faultless (mstp_result rule s)
  unfolding mstp_result mstp_errors mstp_warnings
  faultless_frame =
      rw (valid_is (length s) 8 (error_tests rule s)) (and_assoc (leb 8 (length s)) (quiet (error_tests rule s)) (quiet (warning_tests rule s)))
      ∙ faultless_is (Some MsTP) (length s) 8 (error_tests rule s) (warning_tests rule s)

  -- the result without findings is what the validator answers of a frame that gives none
  pub clean_frame : faultless (mstp_result rule s) ≡ true → validation_result (Some MsTP) (length s) [] [] ≡ mstp_result rule s
  unfolding mstp_result
  clean_frame = clean (Some MsTP) (length s) (mstp_errors rule s) (mstp_warnings rule s)
