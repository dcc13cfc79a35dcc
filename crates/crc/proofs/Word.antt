-- Octets as one number: what steps make of it, whatever the constant k, and what one changed octet changes in it.
-- Assumes nothing.
use mathlib.Core.Path.{◌≡◌, sym, ap, ap₂, ◌∙◌}
use mathlib.Core.List.{List, [], ◌∷◌, ◌++◌}
use Prim.Native.Nat.{ℕ, zero, suc, ◌+◌, ◌-◌, ◌*◌, ◌^◌, ◌<◌}
use native.Mathlib.Nat.{add-zero, mul-suc, mul_assoc, mod-eq_of_lt}
use native.Mathlib.Omega.{arith}
use lib.Bits.{bit_xor, bit_and, xor_comm, xor_self, xor_zero_r, xor_zero_l, xor_shifted, xor_block, xor_lt, xor_add_and, and_mask}
use lib.ListN.{length, get_or}
use lib.Pow.{pow-add, pow_pos, le_ones}
use lib.Seq.{ext_get_or}
use Rattle.crc_tables.specs.Steps.{steps}
use Rattle.crc.specs.Burst.{word, XoredAt}
use Rattle.crc.specs.Check.{octet_step, register, ones}
use Rattle.crc.proofs.Linear.{steps_linear, steps_add, steps_shift}
use Rattle.crc.proofs.Register.{register_append}
use Rattle.crc.proofs.Width.{AllBelow}
use Rattle.crc.proofs.Xor.{xor_assoc}

-- a number XORed in twice is gone
pub xor_twice : (a b : ℕ) → bit_xor a (bit_xor a b) ≡ b
xor_twice a b = sym (xor_assoc a a b) ∙ ap (λ (x : ℕ). bit_xor x b) (xor_self a) ∙ xor_zero_l b

-- the register over some octets: XOR them in as one number, then take eight steps for each
pub register_word : (k x : ℕ) (s : List ℕ) → AllBelow 256 s → register k x s ≡ steps k (8 * length s) (bit_xor x (word s))
unfolding register octet_step steps word
register_word k x [] hs = sym (xor_zero_r x)
register_word k x (b ∷ s) hs =
    let z = word s * 2 ^ 8 in
    let more : 8 + 8 * length s ≡ 8 * suc (length s) = omega arith in
    register_word k (octet_step k x b) s (λ i. hs (suc i))
    ∙ ap (λ (y : ℕ). steps k (8 * length s) y)
    (ap (λ (y : ℕ). bit_xor (octet_step k x b) y) (sym (steps_shift k 8 (word s))) ∙ sym (steps_linear k 8 (bit_xor x b) z))
    ∙ sym (steps_add k 8 (8 * length s) (bit_xor (bit_xor x b) z))
    ∙ ap₂ (λ (n y : ℕ). steps k n y) more
    (xor_assoc x b z ∙ ap (λ (y : ℕ). bit_xor x y) (xor_comm b z ∙ xor_shifted (word s) 8 b (hs 0)))

-- a pattern XORed into the octets is XORed, after as many steps, into the register
pub register_xored : (k x : ℕ) {p j : ℕ} (s t : List ℕ) → AllBelow 256 s → AllBelow 256 t → XoredAt p j s t
    → register k x t ≡ bit_xor (register k x s) (steps k (8 * length s) (p * 2 ^ j))
register_xored k x {p} {j} s t hs ht c =
    let d = p * 2 ^ j in
    let n = 8 * length s in
    register_word k x t ht
    ∙ ap₂ (λ (m y : ℕ). steps k (8 * m) (bit_xor x y)) c.same_length c.changed
    ∙ ap (λ (y : ℕ). steps k n y) (sym (xor_assoc x (word s) d))
    ∙ steps_linear k n (bit_xor x (word s)) d
    ∙ ap (λ (y : ℕ). bit_xor y (steps k n d)) (sym (register_word k x s hs))

-- w ones less a number of w bits is the number's complement
complement : (w r : ℕ) → r < 2 ^ w → bit_xor r (ones w - r) ≡ ones w
complement w r h = ap (λ (x : ℕ). bit_xor r x) less ∙ xor_twice r (ones w)
  where
    less : ones w - r ≡ bit_xor r (ones w)
    less = let same : bit_and r (ones w) ≡ r = and_mask r w ∙ mod-eq_of_lt h in omega (arith, xor_add_and r (ones w), le_ones w h)

-- some octets and their check, low octet first, always leave the same register
pub register_checked : (w k : ℕ) (s c : List ℕ) → AllBelow 256 c → register k (ones w) s < 2 ^ w → word c ≡ ones w - register k (ones w) s
    → register k (ones w) (s ++ c) ≡ steps k (8 * length c) (ones w)
register_checked w k s c hc fits e =
    register_append k (ones w) s c
    ∙ register_word k (register k (ones w) s) c hc
    ∙ ap (λ (y : ℕ). steps k (8 * length c) y)
    (ap (λ (y : ℕ). bit_xor (register k (ones w) s) y) e ∙ complement w (register k (ones w) s) fits)

-- one octet changed: the number changes in the octet's eight bits
word_changed : (i : ℕ) (s t : List ℕ) → length t ≡ length s → i < length s → AllBelow 256 s → AllBelow 256 t
    → ((j : ℕ) → (j ≡ i → ⊥) → get_or t j 0 ≡ get_or s j 0)
    → word t ≡ bit_xor (word s) (bit_xor (get_or s i 0) (get_or t i 0) * 2 ^ (8 * i))
unfolding word
word_changed i [] t same inside hs ht others = absurd (omega arith)
word_changed i (a ∷ s) [] same inside hs ht others = absurd (omega arith)
word_changed zero (a ∷ s) (b ∷ t) same inside hs ht others =
    let alike : t ≡ s = ext_get_or 0 t s (omega arith) (λ j _. others (suc j) (λ e. omega arith)) in
    let pattern : 0 * 2 ^ 8 + bit_xor a b ≡ bit_xor a b * 1 = omega arith in
    ap₂ (λ (x y : ℕ). x * 256 + y) (ap word alike ∙ sym (xor_zero_r (word s))) (sym (xor_twice a b))
    ∙ sym (xor_block 8 (word s) 0 a (bit_xor a b) (hs 0) (xor_lt 8 a b (hs 0) (ht 0)))
    ∙ ap (λ (y : ℕ). bit_xor (word s * 256 + a) y) pattern
word_changed (suc i) (a ∷ s) (b ∷ t) same inside hs ht others =
    let d = bit_xor (get_or s i 0) (get_or t i 0) in
    let rest
    = word_changed i s t (omega arith) (omega arith) (λ j. hs (suc j)) (λ j. ht (suc j)) (λ j off. others (suc j) (λ e. off (omega arith))) in
    ap₂ (λ (x y : ℕ). x * 256 + y) rest (others 0 (λ e. omega arith) ∙ sym (xor_zero_r a))
    ∙ sym (xor_block 8 (word s) (d * 2 ^ (8 * i)) a 0 (hs 0) (pow_pos 8))
    ∙ ap (λ (y : ℕ). bit_xor (word s * 256 + a) y)
    (add-zero (d * 2 ^ (8 * i) * 2 ^ 8)
    ∙ mul_assoc d (2 ^ (8 * i)) (2 ^ 8)
    ∙ ap (λ (y : ℕ). d * y) (sym (pow-add 2 (8 * i) 8) ∙ ap (λ (y : ℕ). 2 ^ y) (sym (mul-suc 8 i))))

-- so a pattern is XORed in there
pub octet_xored : (i : ℕ) (s t : List ℕ) → length t ≡ length s → i < length s → AllBelow 256 s → AllBelow 256 t
    → ((j : ℕ) → (j ≡ i → ⊥) → get_or t j 0 ≡ get_or s j 0)
    → XoredAt (bit_xor (get_or s i 0) (get_or t i 0)) (8 * i) s t
octet_xored i s t same inside hs ht others = record {
  same_length = same;
  changed = word_changed i s t same inside hs ht others;
}
