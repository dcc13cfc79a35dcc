-- What the register finds, over its constant k: each change confined to as many neighbouring bits as the constant has, its top
-- bit set; and of the changes confined to one bit more all but one.
-- Assumes nothing.
use mathlib.Core.Path.{◌≡◌, refl, sym, ap, ◌∙◌}
use mathlib.Core.Logic.{◌⊎◌, inl, inr, ⊎_elim}
use mathlib.Core.List.{List, ◌++◌}
use Prim.Native.Nat.{ℕ, zero, suc, ◌+◌, ◌-◌, ◌*◌, ◌/◌, ◌%◌, ◌^◌, ◌≤◌, ◌<◌}
use native.Mathlib.Nat.{mul-one, le-mul_of_pos_right, lt_of_lt_of_le, pow-suc}
use native.Mathlib.Omega.{arith}
use lib.Bits.{bit_xor, xor_self, xor_zero_r}
use lib.ListN.{length}
use lib.Pow.{ones_lt, pow_pos, pow_mono}
use Rattle.crc_tables.specs.Steps.{xor_if, step, steps}
use Rattle.crc.specs.Burst.{word, XoredAt, Burst}
use Rattle.crc.specs.Check.{register, ones, check, TopBitSet}
use Rattle.crc.proofs.Injective.{kernel, xor_zero}
use Rattle.crc.proofs.Linear.{step_shift}
use Rattle.crc.proofs.Width.{AllBelow, xor_if_fits, step_fits, register_fits}
use Rattle.crc.proofs.Word.{xor_twice, register_xored, register_checked}

-- the pattern that is not found: twice the constant plus 1
abbrev pub missed_pattern : ℕ → ℕ
missed_pattern k = 2 * k + 1

-- a pattern that a step takes to 0 is 0 or that one
step_zero : (k p : ℕ) → step k p ≡ 0 → (p ≡ 0) ⊎ (p ≡ missed_pattern k)
unfolding step xor_if
step_zero k p z = by (p % 2) refl z
  where
    by : (b : ℕ) → p % 2 ≡ b → xor_if b k (p / 2) ≡ 0 → (p ≡ 0) ⊎ (p ≡ missed_pattern k)
    by zero f e = inl (omega arith)
    by (suc b) f e = let q = xor_zero (p / 2) k e in inr (omega arith)

-- and it takes that one to 0
missed_zero : (k : ℕ) → step k (missed_pattern k) ≡ 0
unfolding step xor_if
missed_zero k =
    let odd : missed_pattern k % 2 ≡ 1 = omega arith in
    let half : missed_pattern k / 2 ≡ k = omega arith in
    rw (odd, half) (xor_self k)

zero_steps : (k n : ℕ) → steps k n 0 ≡ 0
unfolding steps step xor_if
zero_steps k zero = refl
zero_steps k (suc n) = zero_steps k n

-- wherever it stands
missed_gone : (k n j : ℕ) → j < n → steps k n (missed_pattern k * 2 ^ j) ≡ 0
unfolding steps
missed_gone k zero j h = absurd (omega arith)
missed_gone k (suc n) zero h =
    ap (λ (y : ℕ). steps k n (step k y)) (mul-one (missed_pattern k)) ∙ ap (λ (y : ℕ). steps k n y) (missed_zero k) ∙ zero_steps k n
missed_gone k (suc n) (suc j) h =
    ap (λ (y : ℕ). steps k n y) (step_shift k j (missed_pattern k)) ∙ missed_gone k n j (omega arith)

-- octets in which it was XORed leave the same register
pub missed_alike : (k x : ℕ) {j : ℕ} (s t : List ℕ) → AllBelow 256 s → AllBelow 256 t → j < 8 * length s → XoredAt (missed_pattern k) j s t
    → register k x t ≡ register k x s
missed_alike k x {j} s t hs ht inside c =
    register_xored k x s t hs ht c
    ∙ ap (λ (y : ℕ). bit_xor (register k x s) y) (missed_gone k (8 * length s) j inside)
    ∙ xor_zero_r (register k x s)

module _ (w k : ℕ) (top : TopBitSet w k) where
  -- no steps take a pattern of w + 1 bits to 0
  steps_kernel : (n p : ℕ) → p < 2 ^ suc w → steps k n p ≡ 0 → p ≡ 0
  unfolding steps
  steps_kernel zero p h e = e
  steps_kernel (suc n) p h e = kernel w k top p h (steps_kernel n (step k p) (step_fits (suc w) k p top.1 h) e)

  -- and of those with one bit more only one, wherever it stands
  only_missed : (n j p : ℕ) → p < 2 ^ suc (suc w) → steps k n (p * 2 ^ j) ≡ 0 → (p ≡ 0) ⊎ (p ≡ missed_pattern k)
  unfolding steps step
  only_missed zero j p h e = inl (omega (arith, le-mul_of_pos_right p (pow_pos j)))
  only_missed (suc n) zero p h e =
      step_zero k p
      (steps_kernel n (step k p) (xor_if_fits (suc w) (p % 2) k (p / 2) top.1 (omega (arith, pow-suc 2 (suc w))))
      (ap (λ (y : ℕ). steps k n (step k y)) (sym (mul-one p)) ∙ e))
  only_missed (suc n) (suc j) p h e = only_missed n j p h (ap (λ (y : ℕ). steps k n y) (sym (step_shift k j p)) ∙ e)

  -- octets before and after a change that leave the same register
  module _ (x : ℕ) (s t : List ℕ) (hs : AllBelow 256 s) (ht : AllBelow 256 t) (same : register k x s ≡ register k x t) where
    -- the change is none, or the one that is not found
    pub unnoticed : (p j : ℕ) → p < 2 ^ suc (suc w) → XoredAt p j s t → (p ≡ 0) ⊎ (p ≡ missed_pattern k)
    unnoticed p j h c =
        let a = register k x s in
        let d = steps k (8 * length s) (p * 2 ^ j) in
        only_missed (8 * length s) j p h
        (sym (xor_twice a d) ∙ ap (λ (y : ℕ). bit_xor a y) (sym (register_xored k x s t hs ht c) ∙ sym same) ∙ xor_self a)

    -- it is not confined to w + 1 neighbouring bits
    pub noticed : Burst (suc w) s t → ⊥
    noticed b =
        let h = b.narrow in
        ⊎_elim (λ e. omega (arith, b.some)) (λ e. omega (arith, top.0, pow-suc 2 w))
        (unnoticed b.pattern _ (omega (arith, pow-suc 2 (suc w))) b.xored)

-- octets with their check behind them, low octet first, leave the register that any others with theirs leave
pub checked_alike : (w k : ℕ) (s t c d : List ℕ) → 8 ≤ w → k < 2 ^ w
    → AllBelow 256 s → AllBelow 256 t → AllBelow 256 c → AllBelow 256 d → length c ≡ length d
    → word c ≡ check w k s → word d ≡ check w k t → register k (ones w) (s ++ c) ≡ register k (ones w) (t ++ d)
unfolding check
checked_alike w k s t c d wide low hs ht hc hd same ec ed =
    residue s c hs hc ec ∙ ap (λ (n : ℕ). steps k (8 * n) (ones w)) same ∙ sym (residue t d ht hd ed)
  where
    residue : (u e : List ℕ) → AllBelow 256 u → AllBelow 256 e → word e ≡ ones w - register k (ones w) u
        → register k (ones w) (u ++ e) ≡ steps k (8 * length e) (ones w)
    residue u e hu he right =
        register_checked w k u e he
        (register_fits w k (ones w) u low (ones_lt w) (λ i. lt_of_lt_of_le (hu i) (pow_mono wide))) right
