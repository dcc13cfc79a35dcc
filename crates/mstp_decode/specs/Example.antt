-- What "reading finds the changes" says by itself: of another octet stored anywhere, and of every pattern from every bit on.
-- Assumes nothing.
use Rattle.std.specs.Prelude.{◌≡◌, false, Result, List, ℕ, ◌^◌, ◌<◌, length, get_or, set}
use Rattle.std.specs.Int.Bits.{bit_xor}
use Rattle.crc.specs.Burst.{XoredAt, EveryBurst}
use Rattle.crc.specs.declared.CheckRule.{CheckRule}
use Rattle.octets.specs.declared.refusal.Refusal.{Refusal}
use Rattle.mstp_decode.specs.declared.MstpHeader.{MstpHeader}
use Rattle.mstp_decode.specs.Change.{WrittenFrame, is_frame, missed, header_bits, data_bits, checked_header, checked_data, FindsChanges}

-- a pattern of so many bits, XORed into a part of a written frame from any bit on, is found
abbrev pub FindsBits : (CheckRule → ℕ) → (List ℕ → List ℕ) → Type 0
FindsBits bits part =
    (rule : CheckRule) (before after : List ℕ) (answer : Result MstpHeader Refusal) (pattern bit : ℕ)
    → FindsChanges rule after answer
    → WrittenFrame rule before
    → 0 < pattern
    → pattern < 2 ^ bits rule
    → XoredAt pattern bit (part before) (part after)
    → is_frame answer ≡ false

-- another octet at any place, the bits of the header and of the data; and there is such a change for every pattern
pub record Example : Type 0 where
  pub octet : (rule : CheckRule) (before : List ℕ) (answer : Result MstpHeader Refusal) (place other : ℕ)
      → FindsChanges rule (set before place other) answer
      → WrittenFrame rule before
      → place < length before
      → (other ≡ get_or before place 0 → ⊥)
      → is_frame answer ≡ missed rule place (bit_xor (get_or before place 0) other)
  pub bits_in_header : FindsBits header_bits checked_header
  pub bits_in_data : FindsBits (λ rule. data_bits) checked_data
  pub every_burst : EveryBurst
