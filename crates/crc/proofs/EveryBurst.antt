-- Every change of some bits of octets is there: every number that fits is that of some octets.
-- Assumes nothing.
use mathlib.Core.Path.{◌≡◌, refl, sym, ap, subst, ◌∙◌}
use mathlib.Core.List.{List, [], ◌∷◌}
use Prim.Native.Nat.{ℕ, zero, suc, ◌+◌, ◌*◌, ◌/◌, ◌%◌, ◌^◌, ◌<◌}
use native.Mathlib.Nat.{mul-suc, div-add-mod', div-lt_iff_lt-mul}
use native.Mathlib.Omega.{arith}
use lib.Bits.{bit_xor, xor_lt}
use lib.Dec.{lit<}
use lib.ListN.{length}
use lib.Pow.{pow-add}
use Rattle.crc.specs.Burst.{word, XoredAt, EveryBurst}
use Rattle.crc.proofs.Width.{AllBelow}

-- the first n octets of a number, low octet first, and what they make
abbrev octets_of : ℕ → ℕ → List ℕ
octets_of zero v = []
octets_of (suc n) v = v % 256 ∷ octets_of n (v / 256)

length_of : (n v : ℕ) → length (octets_of n v) ≡ n
length_of zero v = refl
length_of (suc n) v = ap suc (length_of n (v / 256))

below_of : (n v : ℕ) → AllBelow 256 (octets_of n v)
below_of zero v i = lit< tt
below_of (suc n) v zero = omega arith
below_of (suc n) v (suc i) = below_of n (v / 256) i

eight_more : (n : ℕ) → 2 ^ (8 * suc n) ≡ 2 ^ (8 * n) * 256
eight_more n = ap (λ (m : ℕ). 2 ^ m) (mul-suc 8 n) ∙ pow-add 2 (8 * n) 8

word_of : (n v : ℕ) → v < 2 ^ (8 * n) → word (octets_of n v) ≡ v
unfolding word
word_of zero v h = omega arith
word_of (suc n) v h =
    ap (λ (y : ℕ). y * 256 + v % 256)
    (word_of n (v / 256) ((div-lt_iff_lt-mul (lit< tt)).1 (subst (λ (m : ℕ). v < m) (eight_more n) h)))
    ∙ div-add-mod' v 256

-- a number of octets is below 256 to their count
word_fits : (s : List ℕ) → AllBelow 256 s → word s < 2 ^ (8 * length s)
unfolding word
word_fits [] hs = lit< tt
word_fits (b ∷ s) hs =
    let h = word_fits s (λ i. hs (suc i)) in
    subst (λ (m : ℕ). word s * 256 + b < m) (sym (eight_more (length s))) (omega (arith, h, hs 0))

pub every_burst : EveryBurst
every_burst w p j s hs some narrow fits =
    let n = length s in
    let v = bit_xor (word s) (p * 2 ^ j) in
    let xored : XoredAt p j s (octets_of n v)
    = record {
      same_length = length_of n v;
      changed = word_of n v (xor_lt (8 * n) (word s) (p * 2 ^ j) (word_fits s hs) fits);
    } in (
      octets_of n v,
      (
        below_of n v,
        (
          xored,
          record {
            pattern = p;
            bit = j;
            some = some;
            narrow = narrow;
            xored = xored;
          },
        ),
      ),
    )
