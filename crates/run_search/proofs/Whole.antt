-- The reports of a whole run: none of one that is too long, and else all those from place 0 on.
-- Assumes nothing.
use mathlib.Core.Path.{◌≡◌, refl}
use mathlib.Core.Bool.{true, false}
use mathlib.Core.List.{List, flat_map}
use Prim.Native.Nat.{ℕ, ◌/◌}
use lib.ListN.{length, take}
use lib.Seq.{take-nil}
use Rattle.octets.specs.Output.{at_front}
use Rattle.octets.specs.Size.{at_most_65535}
use Rattle.crc.specs.declared.CheckRule.{CheckRule}
use Rattle.run_search.specs.Reports.{rest, reports, list_numbers}

module _ (rule : CheckRule) (run : List ℕ) where
  pub reports_rest : at_most_65535 (length run) ≡ true → reports rule run ≡ rest rule run 0
  unfolding reports
  reports_rest fits = rw fits

  module _ (out : List ℕ) where
    pub none_stored : at_most_65535 (length run) ≡ false
        → (◌≡◌ {A = ℕ} 0 (length (reports rule run))) × (out ≡ at_front (list_numbers (take (length out / 2) (reports rule run))) out)
    unfolding reports list_numbers flat_map at_front
    none_stored long = rw (long, take-nil) (refl, refl)
