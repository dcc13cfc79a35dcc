-- Which frames the MS/TP validator calls valid, by the questions of reading.
-- Assumes nothing.
use Rattle.std.specs.Prelude.{◌≡◌, Bool, ◌&&◌, not, List, ℕ, leb, eqb}
use Rattle.octets.specs.Question.{Question, first_no, excusing}
use Rattle.crc.specs.declared.CheckRule.{CheckRule}
use Rattle.mstp_frame.specs.Fields.{frame_type, source_of, data_length}
use Rattle.mstp_decode.specs.Decode.{decode_questions}

-- the questions of reading; 3 is excused where the type is proprietary, 128 or more
unfoldable pub reading_questions : CheckRule → List ℕ → List Question
reading_questions rule s = excusing 3 (leb 128 (frame_type s)) (decode_questions rule s)

-- valid are exactly the octets that pass them with a source other than 255 and at most 501 data octets
abbrev pub ValidAsRead : CheckRule → List ℕ → Bool → Type 0
ValidAsRead rule s valid =
    valid ≡ (eqb (first_no (reading_questions rule s)) 0 && (not (eqb (source_of s) 255) && leb (data_length s) 501))
