-- The steps of a check, over its constant k. Octets and registers are naturals.
-- Assumes nothing.
use Rattle.std.specs.Prelude.{ℕ, zero, suc, ◌/◌, ◌%◌}
use Rattle.std.specs.Int.Bits.{bit_xor}

-- y, with the constant XORed in where the bit shifted out was 1
unfoldable pub xor_if : ℕ → ℕ → ℕ → ℕ
xor_if zero k y = y
xor_if (suc bit) k y = bit_xor y k

-- a step: shift right; if the bit shifted out was 1, XOR the constant
unfoldable pub step : ℕ → ℕ → ℕ
step k x = xor_if (x % 2) k (x / 2)

-- n steps
unfoldable pub steps : ℕ → ℕ → ℕ → ℕ
steps k zero x = x
steps k (suc n) x = steps k n (step k x)
