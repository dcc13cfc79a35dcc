-- Which octets are an acceptable frame.
-- Assumes nothing.
use Rattle.std.specs.Prelude.{ℕ, Bool, ◌&&◌, List, leb, take}
use Rattle.crc.specs.declared.CheckRule.{CheckRule}
use Rattle.mstp_frame.specs.Size.{frame_size}
use Rattle.mstp_frame.specs.Fields.{frame_type, data_length}
use Rattle.validation_mstp.specs.Tests.{errorless}

-- the MS/TP validator has no error for them under the rule, and their type is 0 to 7
unfoldable pub acceptable : CheckRule → List ℕ → Bool
acceptable rule frame = errorless rule frame && leb (frame_type frame) 7

-- the octet count of the frame in front, as its length says: 8, or 10 plus the length if that is above 0
abbrev pub own_count : List ℕ → ℕ
own_count s = frame_size (data_length s)

-- its octets
unfoldable pub own_octets : List ℕ → List ℕ
own_octets s = take (own_count s) s
