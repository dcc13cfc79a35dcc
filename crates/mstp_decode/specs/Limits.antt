-- What the checks do not find: pairs of frames that are both read.
-- Assumes nothing.
use Rattle.std.specs.Prelude.{◌≡◌, true, List, [], ◌∷◌, ℕ, ◌+◌}
use Rattle.octets.specs.Change.{DifferAt}
use Rattle.crc.specs.Burst.{Burst}
use Rattle.crc.specs.declared.CheckRule.{CheckRule}
use Rattle.crc.specs.declared.CheckRule.TheVariants.{AnnexG, House}
use Rattle.mstp_decode.specs.Change.{WrittenFrame, is_frame, header_bits, data_bits, checked_header, checked_data}
use Rattle.mstp_decode.specs.Decode.{decode}

-- two frames that differ in some neighbouring bits of a part: both are written, and both are read
pub record BothRead (rule : CheckRule) (bits : ℕ) (part : List ℕ → List ℕ) (one other : List ℕ) : Type 0 where
  pub burst : Burst bits (part one) (part other)
  pub one_written : WrittenFrame rule one
  pub other_written : WrittenFrame rule other
  pub one_read : is_frame (decode rule one) ≡ true
  pub other_read : is_frame (decode rule other) ≡ true

-- a token to 10 from 05
abbrev pub token : CheckRule → List ℕ
token AnnexG = 0x55 ∷ 0xFF ∷ 0x00 ∷ 0x10 ∷ 0x05 ∷ 0x00 ∷ 0x00 ∷ 0x8C ∷ []
token House = 0x55 ∷ 0xFF ∷ 0x00 ∷ 0x10 ∷ 0x05 ∷ 0x00 ∷ 0x00 ∷ 0x9A ∷ []

-- another with the same check: to 13 from 04, or to 10 from AE
abbrev pub other_token : CheckRule → List ℕ
other_token AnnexG = 0x55 ∷ 0xFF ∷ 0x00 ∷ 0x13 ∷ 0x04 ∷ 0x00 ∷ 0x00 ∷ 0x8C ∷ []
other_token House = 0x55 ∷ 0xFF ∷ 0x00 ∷ 0x10 ∷ 0xAE ∷ 0x00 ∷ 0x00 ∷ 0x9A ∷ []

-- a frame with the data 01 02 03
abbrev pub three_data : CheckRule → List ℕ
three_data AnnexG = 0x55 ∷ 0xFF ∷ 0x06 ∷ 0x10 ∷ 0x05 ∷ 0x00 ∷ 0x03 ∷ 0x9C ∷ 0x01 ∷ 0x02 ∷ 0x03 ∷ 0x3B ∷ 0x9D ∷ []
three_data House = 0x55 ∷ 0xFF ∷ 0x06 ∷ 0x10 ∷ 0x05 ∷ 0x00 ∷ 0x03 ∷ 0x8B ∷ 0x01 ∷ 0x02 ∷ 0x03 ∷ 0x9E ∷ 0x9E ∷ []

-- other data with the same check
abbrev pub other_data : CheckRule → List ℕ
other_data AnnexG = 0x55 ∷ 0xFF ∷ 0x06 ∷ 0x10 ∷ 0x05 ∷ 0x00 ∷ 0x03 ∷ 0x9C ∷ 0x10 ∷ 0x0A ∷ 0x02 ∷ 0x3B ∷ 0x9D ∷ []
other_data House = 0x55 ∷ 0xFF ∷ 0x06 ∷ 0x10 ∷ 0x05 ∷ 0x00 ∷ 0x03 ∷ 0x8B ∷ 0x02 ∷ 0x42 ∷ 0x02 ∷ 0x9E ∷ 0x9E ∷ []

-- one bit more than is found is missed, of a header and of data, under either rule; the house's tokens differ in one octet
pub record Limits : Type 0 where
  pub header : (rule : CheckRule) → BothRead rule (header_bits rule + 1) checked_header (token rule) (other_token rule)
  pub body : (rule : CheckRule) → BothRead rule (data_bits + 1) checked_data (three_data rule) (other_data rule)
  pub house_octet : DifferAt 4 (token House) (other_token House)
