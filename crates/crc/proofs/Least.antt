-- The least header check of each rule: 55 is below 80, so the house's is high.
-- Assumes nothing.
use mathlib.Core.Path.{◌≡◌, refl}
use mathlib.Core.List.{List, [], ◌∷◌}
use Prim.Native.Nat.{ℕ, ◌-◌, ◌^◌, ◌≤◌, ◌<◌}
use native.Mathlib.Omega.{arith}
use lib.Dec.{lit<}
use lib.ListN.{length}
use Rattle.crc_tables.specs.Steps.{xor_if, step, steps}
use Rattle.crc.specs.Check.{octet_step, register, check}
use Rattle.crc.specs.Rule.{header_constant, header_check, least_header_check, least_header, least_check}
use Rattle.crc.specs.declared.CheckRule.{CheckRule}
use Rattle.crc.specs.declared.CheckRule.TheVariants.{AnnexG, House}
use Rattle.crc.proofs.TopBit.{check_high}
use Rattle.crc.proofs.Width.{AllBelow}

-- the check is the complement of the register
pub header_checked : (rule : CheckRule) (s : List ℕ) {r : ℕ} → r ≡ register (header_constant rule) 0xFF s → 0xFF - r ≡ header_check rule s
unfolding header_check check
header_checked rule s e = rw e

-- a rule's header constant has eight bits
pub header_constant_lem : (rule : CheckRule) → header_constant rule < 2 ^ 8
header_constant_lem AnnexG = lit< tt
header_constant_lem House = lit< tt

pub least : (rule : CheckRule) (s : List ℕ) {r : ℕ} → AllBelow (2 ^ 8) s → r ≡ header_check rule s → least_check rule s ≤ r
unfolding header_check
least rule [] octets e = omega arith
least AnnexG (b ∷ s) octets e = omega arith
least House (b ∷ s) octets e = rw e (check_high 7 0x55 (omega arith) (b ∷ s) (omega arith) octets)

-- of octets that are not none it is a header's
pub least_header_lem : (rule : CheckRule) (s : List ℕ) {r : ℕ} → least_check rule s ≤ r → 0 < length s → least_header_check rule ≤ r
least_header_lem rule [] high some = absurd (omega arith)
least_header_lem rule (b ∷ s) high some = high

-- some header has it
pub least_reached : (rule : CheckRule) → header_check rule (least_header rule) ≡ least_header_check rule
unfolding header_check check register octet_step steps step xor_if
least_reached AnnexG = refl
least_reached House = refl
