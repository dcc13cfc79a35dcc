-- What holds of the register's value, whatever the constant k and the way that led to it.
-- Assumes nothing.
use mathlib.Core.Path.{◌≡◌, ◌∙◌, sym, ap}
use mathlib.Core.List.{List, ◌++◌}
use Prim.Native.Nat.{ℕ, suc, ◌≤◌, ◌<◌, ◌^◌}
use native.Mathlib.Nat.{lt_of_lt_of_le}
use lib.Pow.{pow_mono}
use Rattle.crc.specs.Check.{register, TopBitSet}
use Rattle.crc.proofs.Injective.{register_injective}
use Rattle.crc.proofs.Register.{register_append}
use Rattle.crc.proofs.Width.{AllBelow, register_fits}

module _ (k crc : ℕ) (s : List ℕ) {r : ℕ} (is : r ≡ register k crc s) where
  -- another register goes on where it stopped
  pub goes_on : (more : List ℕ) → register k r more ≡ register k crc (s ++ more)
  goes_on more = ap (λ (y : ℕ). register k y more) is ∙ sym (register_append k crc s more)

  module _ (octets : AllBelow (2 ^ 8) s) where
    within : (w : ℕ) → 8 ≤ w → AllBelow (2 ^ w) s
    within w wide i = lt_of_lt_of_le (octets i) (pow_mono wide)

    -- it stays within the width of its constant and its start
    pub stays : (w : ℕ) → 8 ≤ w → k < 2 ^ w → crc < 2 ^ w → r < 2 ^ w
    stays w wide hk hx = rw is (register_fits w k crc s hk hx (within w wide))

    -- where the constant's top bit is 1, it comes from no other start of its width
    pub one_start : (w other : ℕ) → 8 ≤ suc w → TopBitSet w k → crc < 2 ^ suc w → other < 2 ^ suc w → register k other s ≡ r → other ≡ crc
    one_start w other wide top hx ho same = register_injective w k top s other crc ho hx (within (suc w) wide) (same ∙ is)
