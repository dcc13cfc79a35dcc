-- A frame that gives no finding: its result is the one without any.
-- Assumes nothing.
use mathlib.Core.Path.{◌≡◌}
use mathlib.Core.Bool.{true, ◌&&◌}
use mathlib.Core.List.{List, []}
use Prim.Native.Nat.{ℕ}
use lib.Dec.{leb}
use lib.ListN.{length}
use Rattle.std.specs.Prelude.{Some}
use Rattle.findings.specs.declared.LinkType.TheVariants.{Ethernet}
use Rattle.findings.specs.Result.{validation_result, faultless}
use Rattle.findings.proofs.NoFindings.{clean, faultless_is}
use Rattle.findings.proofs.Quiet.{quiet}
use Rattle.validation_ethernet.specs.Tests.{error_tests, warning_tests, ethernet_errors, ethernet_warnings, ethernet_result}

pub clean_frame : (s : List ℕ) → faultless (ethernet_result s) ≡ true → validation_result (Some Ethernet) (length s) [] [] ≡ ethernet_result s
unfolding ethernet_result
clean_frame s = clean (Some Ethernet) (length s) (ethernet_errors s) (ethernet_warnings s)

-- a frame gives no finding where it has 17 octets and no test fires
pub faultless_frame : (s : List ℕ) → leb 17 (length s) && (quiet (error_tests s) && quiet (warning_tests s)) ≡ faultless (ethernet_result s)
unfolding ethernet_result ethernet_errors ethernet_warnings
faultless_frame s = faultless_is (Some Ethernet) (length s) 17 (error_tests s) (warning_tests s)
