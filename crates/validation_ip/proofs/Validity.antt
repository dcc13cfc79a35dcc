-- The tests of the validator and the questions of reading say the same, but for the length and the largest size.
-- Assumes nothing.
use mathlib.Core.Path.{◌≡◌, ◌∙◌}
use mathlib.Core.List.{List}
use Prim.Native.Nat.{ℕ}
use native.Mathlib.Omega.{arith}
use lib.Dec.{eqb}
use lib.ListN.{length}
use Rattle.std.proofs.lemmas.Bool.Decides.{nat_tests}
use Rattle.octets.specs.Question.{first_no, excusing}
use Rattle.bip_header.specs.Header.{header_questions}
use Rattle.findings.proofs.Quiet.{valid_is}
use Rattle.validation_ip.specs.Tests.{error_tests, ip_errors}
use Rattle.validation_ip.specs.Validity.{reading_questions, ValidAsRead}

-- valid are exactly the octets that pass, as many as their length says and at most 1497
pub valid_as_read : (s : List ℕ) → ValidAsRead s (eqb (length (ip_errors s)) 0)
unfolding ip_errors error_tests reading_questions excusing header_questions first_no
valid_as_read s = valid_is (length s) 4 (error_tests s) ∙ grind (arith, nat_tests)
