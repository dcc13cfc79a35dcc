-- Steps, by the low and the high bits: steps are linear over XOR, and shift zeros out.
-- Assumes nothing.
use mathlib.Core.Path.{◌≡◌, sym, ap, ◌∙◌}
use Prim.Native.Nat.{ℕ, ◌+◌, ◌*◌, ◌/◌, ◌%◌, ◌^◌}
use native.Mathlib.Nat.{mod-lt}
use lib.Bits.{bit_xor, xor_comm, xor_shifted}
use lib.Pow.{pow_pos, split}
use Rattle.crc_tables.specs.Steps.{steps}
use Rattle.crc.proofs.Linear.{steps_linear, steps_add, steps_shift}

-- the lowest w bits of a number by themselves; the others are moved down by the first w steps
pub steps_split : (w k m z : ℕ) → steps k (w + m) z ≡ bit_xor (steps k (w + m) (z % 2 ^ w)) (steps k m (z / 2 ^ w))
steps_split w k m z =
    let low = z % 2 ^ w in
    let high = z / 2 ^ w * 2 ^ w in
    ap (λ (y : ℕ). steps k (w + m) y)
    (sym (split z w) ∙ sym (xor_shifted (z / 2 ^ w) w low (mod-lt z (pow_pos w))) ∙ xor_comm high low)
    ∙ steps_linear k (w + m) low high
    ∙ ap (λ (y : ℕ). bit_xor (steps k (w + m) low) y)
    (steps_add k w m high ∙ ap (λ (y : ℕ). steps k m y) (steps_shift k w (z / 2 ^ w)))

-- eight steps: what is above the lowest eight bits only moves down
pub eight_law : (k z : ℕ) → steps k 8 z ≡ bit_xor (steps k 8 (z % 256)) (z / 256)
unfolding steps
eight_law k z = steps_split 8 k 0 z
