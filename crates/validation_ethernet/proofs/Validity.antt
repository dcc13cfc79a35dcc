-- The tests of this validator and the questions of ethernet.rs's say the same.
-- Assumes nothing.
use mathlib.Core.Path.{◌≡◌, ◌∙◌}
use mathlib.Core.Bool.{and_assoc}
use mathlib.Core.List.{List}
use Prim.Native.Nat.{ℕ}
use native.Mathlib.Omega.{arith}
use lib.Dec.{eqb}
use lib.ListN.{length, get_or}
use Rattle.std.proofs.lemmas.Bool.Decides.{nat_tests}
use Rattle.octets.specs.Number.{number}
use Rattle.octets.specs.Question.{first_no}
use Rattle.octets.proofs.Numbers.{same_number}
use Rattle.octets.proofs.Parts.{Octets}
use Rattle.ethernet_decode.specs.Decode.{llc_right, form_questions, header_questions, validate_questions}
use Rattle.findings.proofs.Quiet.{valid_is}
use Rattle.validation_ethernet.specs.Tests.{llc, error_tests, ethernet_errors}
use Rattle.validation_ethernet.specs.Validity.{AgreesWithEthernet}

module _ (s : List ℕ) (octets : Octets s) where
  -- the LLC header as one number, and octet by octet
  llc_test : eqb (llc s) 0x828203 ≡ llc_right s
  unfolding llc llc_right
  llc_test =
      same_number (number (get_or s 14 0) (get_or s 15 0)) (get_or s 16 0) 0x8282 0x03 (octets 16) (omega arith)
      ∙ rw (same_number (get_or s 14 0) (get_or s 15 0) 0x82 0x82 (octets 15) (omega arith))
      (and_assoc (eqb (get_or s 14 0) 0x82) (eqb (get_or s 15 0) 0x82) (eqb (get_or s 16 0) 0x03))

  -- valid are exactly the octets that fail no question
  pub agrees_with_ethernet : AgreesWithEthernet s (eqb (length (ethernet_errors s)) 0)
  unfolding ethernet_errors error_tests validate_questions header_questions form_questions first_no
  agrees_with_ethernet = valid_is (length s) 17 (error_tests s) ∙ rw llc_test (grind (arith, nat_tests))
