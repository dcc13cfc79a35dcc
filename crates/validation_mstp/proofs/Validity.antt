-- The tests of the validator and the questions of reading say the same, but for the source and the longest length.
-- Assumes nothing.
use mathlib.Core.Path.{◌≡◌, ◌∙◌}
use mathlib.Core.Bool.{Bool, cond, not, ◌&&◌, ◌||◌}
use mathlib.Core.List.{List}
use Prim.Native.Nat.{ℕ}
use native.Mathlib.Omega.{arith}
use lib.Dec.{eqb, leb}
use lib.ListN.{length, get_or}
use Rattle.std.proofs.lemmas.Bool.Decides.{nat_tests}
use Rattle.octets.specs.Range.{within}
use Rattle.octets.specs.Question.{first_no, excusing}
use Rattle.octets.proofs.Numbers.{same_number}
use Rattle.octets.proofs.Parts.{Octets}
use Rattle.crc.specs.declared.CheckRule.{CheckRule}
use Rattle.mstp_frame.specs.Fields.{preamble, begins_preamble, frame_type, source_of, data_length}
use Rattle.mstp_decode.specs.Decode.{checks_question, decode_questions}
use Rattle.validation_mstp.specs.Tests.{errorless}
use Rattle.validation_mstp.specs.Validity.{reading_questions, ValidAsRead}
use Rattle.validation_mstp.proofs.NoFindings.{errorless_is}

-- the first questions, as tests
first : (long begins : Bool) (type source length checks : ℕ)
    → long && (begins && (not (within 8 127 type) && (not (eqb source 255) && (leb length 501 && eqb checks 0))))
    ≡ eqb (cond long (cond begins (cond (leb type 7 || leb 128 type) checks 3) 2) 1) 0 && (not (eqb source 255) && leb length 501)
unfolding within
first long begins type source length checks = grind (arith, nat_tests)

module _ (rule : CheckRule) (s : List ℕ) (octets : Octets s) where
  preamble_test : eqb (preamble s) 0x55FF ≡ begins_preamble s
  unfolding begins_preamble
  preamble_test = same_number (get_or s 0 0) (get_or s 1 0) 0x55 0xFF (octets 1) (omega arith)

  -- valid are exactly the octets that pass, with a source other than 255 and at most 501 data octets
  pub valid_as_read : ValidAsRead rule s (errorless rule s)
  unfolding reading_questions excusing decode_questions checks_question first_no
  valid_as_read =
      errorless_is rule s
      ∙ rw preamble_test (first (leb 8 (length s)) (begins_preamble s) (frame_type s) (source_of s) (data_length s) (checks_question rule s))
