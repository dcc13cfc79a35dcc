-- A message that gives no finding: its result is the one without any.
-- Assumes nothing.
use mathlib.Core.Path.{◌≡◌, sym}
use mathlib.Core.Bool.{true, false, ◌&&◌}
use mathlib.Core.List.{List, []}
use Prim.Native.Nat.{ℕ}
use lib.Dec.{leb}
use lib.ListN.{length}
use Rattle.std.specs.Prelude.{Some}
use Rattle.findings.specs.declared.LinkType.TheVariants.{BacnetIp}
use Rattle.findings.specs.Result.{validation_result, faultless}
use Rattle.findings.proofs.NoFindings.{clean, faultless_is}
use Rattle.findings.proofs.Quiet.{quiet}
use Rattle.validation_ip.specs.Tests.{error_tests, warning_tests, ip_errors, ip_warnings, ip_result}

pub clean_message : (s : List ℕ) → faultless (ip_result s) ≡ true → validation_result (Some BacnetIp) (length s) [] [] ≡ ip_result s
unfolding ip_result
clean_message s = clean (Some BacnetIp) (length s) (ip_errors s) (ip_warnings s)

-- a message gives no finding where it has four octets and no test fires
pub faultless_message : (s : List ℕ) → leb 4 (length s) && (quiet (error_tests s) && quiet (warning_tests s)) ≡ faultless (ip_result s)
unfolding ip_result ip_errors ip_warnings
faultless_message s = faultless_is (Some BacnetIp) (length s) 4 (error_tests s) (warning_tests s)
