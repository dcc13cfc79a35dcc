-- Results as lists of numbers: their layout in lent memory.
-- Assumes nothing.
use Rattle.std.specs.Prelude.{ℕ, cond, List, [], ◌∷◌, Option, Some, None, is_some, unwrap_or}
use Rattle.datalink.specs.declared.DataLinkError.{DataLinkError}
use Rattle.datalink.specs.declared.DataLinkError.TheVariants.{InvalidFrame, CrcError}
use Rattle.mstp_frame.specs.FrameType.{type_number}
use Rattle.mstp_decode.specs.declared.MstpHeader.{MstpHeader}
use Rattle.bip_header.specs.declared.BvlcHeader.{BvlcHeader}
use Rattle.bip_header.specs.Function.{function_number}
use Rattle.log_record.specs.Kind.{kind_number}
use Rattle.log_record.specs.declared.LogRecord.{LogRecord}
use Rattle.statistics.specs.declared.FrameStatistics.{FrameStatistics}

-- the version of the layout; version 1 had no start of the longest run, version 2 no time of a record
abbrev pub layout_version : ℕ
layout_version = 3

-- the number of an error; 0 where the Rust has none
abbrev pub error_number : Option DataLinkError → ℕ
error_number (Some InvalidFrame) = 1
error_number (Some CrcError) = 2
error_number None = 0

-- 1 if there is a value, 0 if not
abbrev pub there : {A : Type 0} → Option A → ℕ
there value = cond (is_some value) 1 0

-- an MS/TP header: type, destination, source, header check, data check (0 where there is none), and place and count of the
-- data
unfoldable pub header_numbers : MstpHeader → List ℕ
header_numbers h =
    type_number h.frame_type
    ∷ h.destination
    ∷ h.source
    ∷ h.header_crc
    ∷ there h.data_crc
    ∷ unwrap_or h.data_crc 0
    ∷ 8
    ∷ h.data_length
    ∷ []

-- a BVLC header: function and length
abbrev pub bvlc_numbers : BvlcHeader → List ℕ
bvlc_numbers h = function_number h.function ∷ h.length ∷ []

-- a record of a log: kind, place of its first octet, octet count, when it was made (0 where it has no time)
abbrev pub record_numbers : LogRecord → List ℕ
record_numbers x = kind_number x.kind ∷ x.start ∷ x.length ∷ there x.time ∷ unwrap_or x.time 0 ∷ []

-- statistics beside the distribution: octets 00, octets of 80 or more, octet, length and start of the longest run
unfoldable pub count_numbers : FrameStatistics → List ℕ
count_numbers t =
    t.null_bytes
    ∷ t.high_bytes
    ∷ t.longest_run.octet
    ∷ t.longest_run.length
    ∷ t.longest_run.start
    ∷ []
