-- Octets as one number, and a change that is confined to some neighbouring bits of them.
-- Assumes nothing.
use Rattle.std.specs.Prelude.{◌≡◌, List, [], ◌∷◌, ℕ, ◌+◌, ◌*◌, ◌^◌, ◌<◌, length, get_or}
use Rattle.std.specs.Int.Bits.{bit_xor}

-- the octets of a list as one number, the first octet lowest
unfoldable pub word : List ℕ → ℕ
word [] = 0
word (octet ∷ octets) = word octets * 256 + octet

-- a pattern is XORed into some octets from a bit on; their bits are taken lowest first
pub record XoredAt (pattern bit : ℕ) (before after : List ℕ) : Type 0 where
  pub same_length : length after ≡ length before
  pub changed : word after ≡ bit_xor (word before) (pattern * 2 ^ bit)

-- a change confined to w neighbouring bits: a pattern of as many, not all of them 0
pub record Burst (w : ℕ) (before after : List ℕ) : Type 0 where
  pub pattern : ℕ
  pub bit : ℕ
  pub some : 0 < pattern
  pub narrow : pattern < 2 ^ w
  pub xored : XoredAt pattern bit before after

-- there is such a change for every pattern, from every bit on from where it fits
abbrev pub EveryBurst : Type 0
EveryBurst =
    (w pattern bit : ℕ) (before : List ℕ)
    → ((i : ℕ) → get_or before i 0 < 256)
    → 0 < pattern
    → pattern < 2 ^ w
    → pattern * 2 ^ bit < 2 ^ (8 * length before)
    → (after : List ℕ)
    × (((i : ℕ) → get_or after i 0 < 256) × (XoredAt pattern bit before after × Burst w before after))
