-- What is answered for a link.
-- Assumes nothing.
use mathlib.Core.Path.{◌≡◌, refl, sym, ap, ◌∙◌}
use mathlib.Core.Bool.{Bool, true, false, cond, ◌&&◌}
use mathlib.Core.List.{List, [], ◌∷◌}
use Prim.Native.Nat.{ℕ, ◌+◌, ◌*◌, ◌<◌}
use native.Mathlib.Omega.{arith}
use borrow.Author.Tests.{ne_eqb}
use lib.Dec.{eqb, ltb}
use lib.ListN.{length, get_or, get_or-eq_default}
use Rattle.std.specs.Prelude.{Option, Some, None}
use Rattle.crc.specs.declared.CheckRule.{CheckRule}
use Rattle.ethernet_decode.specs.Frame.{bacnet_type}
use Rattle.ethernet_decode.specs.Decode.{field_of}
use Rattle.findings.specs.declared.error.HeaderReason.TheVariants.{Undetermined}
use Rattle.findings.specs.declared.error.ValidationError.TheVariants.{FrameTooShort, InvalidHeader}
use Rattle.findings.specs.declared.LinkType.{LinkType}
use Rattle.findings.specs.declared.LinkType.TheVariants.{BacnetIp, Ethernet, MsTP}
use Rattle.findings.specs.declared.ValidationResult.{ValidationResult}
use Rattle.findings.specs.Result.{found, errors_of, validation_result, faultless}
use Rattle.findings.proofs.NoFindings.{clean}
use Rattle.validation_mstp.proofs.NoFindings as mstp
use Rattle.validation_ip.proofs.NoFindings as ip
use Rattle.validation_ethernet.proofs.NoFindings as ethernet
use Rattle.validation.specs.Frame.{link_of, no_link_errors, result_of, frame_result}

-- octets that are not there have no type
pub no_type : (s : List ℕ) → length s < 14 → false ≡ eqb (field_of s) bacnet_type
unfolding field_of
no_type s h = sym (ne_eqb (get_or s 12 0 * 256 + get_or s 13 0) bacnet_type (λ e. omega (arith, get_or-eq_default s 0 {n = 13} (omega arith))))

-- what is answered for the link
pub result_is : (s : List ℕ) (rule : CheckRule) {link at : Option LinkType} {r : ValidationResult} → link ≡ link_of s → link ≡ at
    → r ≡ result_of at rule s → r ≡ frame_result rule s
unfolding frame_result
result_is s rule e f g = g ∙ ap (λ (l : Option LinkType). result_of l rule s) (sym f ∙ e)

-- no link is a fault
pub no_link_at_fault : (size : ℕ) → false ≡ faultless (validation_result None size (no_link_errors size) [])
unfolding faultless no_link_errors errors_of found
no_link_at_fault size = by (ltb size 1)
  where
    by : (none : Bool) → false ≡ eqb (length (cond none (FrameTooShort size 1 ∷ []) (InvalidHeader Undetermined ∷ []))) 0 && true
    by true = refl
    by false = refl

-- the result of its link without findings is what is answered to a frame that gives none
pub clean_frame : (rule : CheckRule) (s : List ℕ) {link : Option LinkType} → link ≡ link_of s → faultless (frame_result rule s) ≡ true
    → validation_result link (length s) [] [] ≡ frame_result rule s
unfolding frame_result
clean_frame rule s is-link none = rw is-link (by (link_of s) none)
  where
    by : (at : Option LinkType) → faultless (result_of at rule s) ≡ true → validation_result at (length s) [] [] ≡ result_of at rule s
    by None = clean None (length s) (no_link_errors (length s)) []
    by (Some BacnetIp) = ip.clean_message s
    by (Some Ethernet) = ethernet.clean_frame s
    by (Some MsTP) = mstp.clean_frame rule s
