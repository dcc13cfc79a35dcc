-- What reading answers where one octet, or some neighbouring bits, of a written frame were changed.
-- Assumes nothing.
use Rattle.std.specs.Prelude.{◌≡◌, Bool, true, false, ◌&&◌, Result, Ok, Err, List, ℕ, ◌<◌, eqb, get_or, take, drop}
use Rattle.std.specs.Int.Bits.{bit_xor}
use Rattle.octets.specs.Change.{DifferAt}
use Rattle.octets.specs.Range.{within}
use Rattle.octets.specs.declared.refusal.Refusal.{Refusal}
use Rattle.crc.specs.Burst.{Burst}
use Rattle.crc.specs.declared.CheckRule.{CheckRule}
use Rattle.crc.specs.declared.CheckRule.TheVariants.{AnnexG, House}
use Rattle.mstp_frame.specs.declared.MstpFrameType.{MstpFrameType}
use Rattle.mstp_decode.specs.declared.MstpHeader.{MstpHeader}
use Rattle.mstp_decode.specs.RoundTrip.{LaidOut}

-- a frame in the writer's layout under a rule: that of some type, addresses and data, all of it octets
pub record WrittenFrame (rule : CheckRule) (frame : List ℕ) : Type 0 where
  pub frame_type : MstpFrameType
  pub destination : ℕ
  pub source : ℕ
  pub body : List ℕ
  pub laid_out : LaidOut rule frame_type destination source body frame
  pub octets : (i : ℕ) → get_or frame i 0 < 256

-- whether a frame was read
abbrev pub is_frame : Result MstpHeader Refusal → Bool
is_frame (Ok header) = true
is_frame (Err refusal) = false

-- the changes of one octet that are missed, by place and by what is XORed in: an address XOR AB under the house rule
unfoldable pub missed : CheckRule → ℕ → ℕ → Bool
missed AnnexG place pattern = false
missed House place pattern = within 3 4 place && eqb pattern 0xAB

-- so many neighbouring bits of a header are found: as many as its constant has, 81 or 55
abbrev pub header_bits : CheckRule → ℕ
header_bits AnnexG = 8
header_bits House = 7

-- so many of the data: as many as both data constants have, 8408 and A001
abbrev pub data_bits : ℕ
data_bits = 16

-- the five header octets and their check
abbrev pub checked_header : List ℕ → List ℕ
checked_header s = take 6 (drop 2 s)

-- the data and their check
abbrev pub checked_data : List ℕ → List ℕ
checked_data s = drop 8 s

-- for `after` in place of `before`: one changed octet is read just where it is missed, so many changed bits of a part never
pub record Finds (rule : CheckRule) (before after : List ℕ) (answer : Result MstpHeader Refusal) : Type 0 where
  pub octet : (place : ℕ) → DifferAt place before after → is_frame answer ≡ missed rule place (bit_xor (get_or before place 0) (get_or after place 0))
  pub bits_in_header : Burst (header_bits rule) (checked_header before) (checked_header after) → is_frame answer ≡ false
  pub bits_in_data : Burst data_bits (checked_data before) (checked_data after) → is_frame answer ≡ false

-- of every frame in the writer's layout
abbrev pub FindsChanges : CheckRule → List ℕ → Result MstpHeader Refusal → Type 0
FindsChanges rule after answer = (before : List ℕ) → WrittenFrame rule before → Finds rule before after answer
