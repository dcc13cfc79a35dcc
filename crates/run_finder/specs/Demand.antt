-- Demand 3: what the calls of a whole reading give of a run that begins with damage and is filled to its end by written frames.
-- Assumes nothing.
use Rattle.std.specs.Prelude.{◌≡◌, Bool, cond, true, ℕ, ◌+◌, ◌<◌, leb, length, drop, Some, Ok}
use mathlib.Core.List.{List, [], ◌∷◌, ◌++◌, map, flatten}
use Rattle.octets.specs.Output.{write_answer, write_output}
use Rattle.octets.specs.Question.{is_yes, first_no}
use Rattle.octets.specs.Size.{size_question}
use Rattle.crc.specs.declared.CheckRule.{CheckRule}
use Rattle.mstp_frame.specs.declared.MstpFrameType.{MstpFrameType}
use Rattle.mstp_frame.specs.FrameType.{from_u8}
use Rattle.mstp_decode.specs.Frame.{encode_frame}
use Rattle.mstp_decode.specs.declared.MstpHeader.{MstpHeader}
use Rattle.mstp_frame.specs.Fields.{begins_preamble, frame_type}
use Rattle.mstp_decode.specs.Decode.{decode, frame_data}
use Rattle.mstp_encode.specs.Encode.{data_question, room_question, encode_answer, encode_output}
use Rattle.validation_mstp.specs.Tests.{mstp_errors}
use Rattle.run_search.specs.declared.Report.{Report}
use Rattle.run_search.specs.Search.{report}
use Rattle.run_search.specs.Found.{octets_of}
use Rattle.run_finder.specs.Reading.{WholeReading}

-- P holds of each element
abbrev pub Each : {A : Type 0} → (A → Type 0) → List A → Type 0
Each P [] = Unit {0}
Each P (x ∷ xs) = P x × Each P xs

-- what a frame is written from
pub record Sent : Type 0 where
  pub frame_type : MstpFrameType
  pub destination : ℕ
  pub source : ℕ
  pub body : List ℕ

-- it is from a station, and the writer's question 7 is passed; that destination and data are octets follows where the run's elements are
pub record Sendable (x : Sent) : Type 0 where
  pub source : x.source < 255
  pub few : is_yes (data_question x.body) ≡ true

-- the octets that the writer gives for it
abbrev pub frame_of : CheckRule → Sent → List ℕ
frame_of rule x = encode_frame rule x.frame_type x.destination x.source x.body

-- a head in front of some octets: 55 FF, as question 2 asks
abbrev pub head : List ℕ → Bool
head s = begins_preamble s

-- a frame has a head in front, and nowhere else
abbrev pub HeadOnce : List ℕ → Type 0
HeadOnce f = (i : ℕ) → head (drop i f) ≡ true → i ≡ 0

-- the place and octet count of each, the first at a place
abbrev pub placed : ℕ → List (List ℕ) → List Report
placed place [] = []
placed place (f ∷ fs) = report place (length f) ∷ placed (place + length f) fs

-- the reports that start at a place or later
unfoldable pub starting_from : ℕ → List Report → List Report
starting_from place [] = []
starting_from place (r ∷ rs) = cond (leb place r.place) (r ∷ starting_from place rs) (starting_from place rs)

-- those that start 510 octets after the first d, or later
abbrev pub starting_late : ℕ → List Report → List Report
starting_late d rs = starting_from (d + 510) rs

-- what reading gives of some octets, written anew into any output: what it answers and leaves is that these octets are written, unless they
-- fail question 8
abbrev pub WrittenAnew : CheckRule → List ℕ → MstpHeader → Type 0
WrittenAnew rule f header =
    (out : List ℕ)
    → let room = first_no (room_question f out ∷ []) in
    (encode_answer rule header.frame_type header.destination header.source (frame_data rule f) out ≡ write_answer room f)
    × (encode_output rule header.frame_type header.destination header.source (frame_data rule f) out ≡ write_output room f out)

-- some octets pass every check: no error, reading accepts, their type is one of the eight; and written anew they are themselves
pub record Passes (rule : CheckRule) (f : List ℕ) : Type 0 where
  pub no_errors : mstp_errors rule f ≡ []
  pub header : MstpHeader
  pub accepted : decode rule f ≡ Ok header
  pub known : from_u8 (frame_type f) ≡ Some header.frame_type
  pub anew : WrittenAnew rule f header

-- so do a report's octets, and they are as many as it says
abbrev pub ReportPasses : CheckRule → List ℕ → Report → Type 0
ReportPasses rule run r = (length (octets_of run r) ≡ r.count) × Passes rule (octets_of run r)

-- what is shown of the reports of a run whose first d octets are damage, and which frames fill from there on
pub record Whole (rule : CheckRule) (run : List ℕ) (d : ℕ) (frames : List (List ℕ)) (rs : List Report) : Type 0 where
  -- they are the finder's answers, call after call from place 0, then "none": no call is refused
  pub read : WholeReading rule run rs
  -- those that start late are the frames that do: places, octet counts and order
  pub late : starting_late d rs ≡ starting_late d (placed d frames)
  -- each one passes every check, and written anew it is itself
  pub pass : Each (ReportPasses rule run) rs

-- the runs that demand 3 speaks of: question 31 is passed; any damage, even none, then written frames, even none, to the end, with 55 FF
-- nowhere in them but at each head
pub record Filled (rule : CheckRule) (run damage : List ℕ) (sent : List Sent) : Type 0 where
  pub whole : run ≡ damage ++ flatten (map (frame_of rule) sent)
  pub fits : is_yes (size_question run) ≡ true
  pub sendable : Each Sendable sent
  pub once : Each HeadOnce (map (frame_of rule) sent)

-- demand 3 of such a run and its reports
abbrev pub Demand3 : CheckRule → List ℕ → List Report → Type 0
Demand3 rule run rs =
    (damage : List ℕ) (sent : List Sent) → Filled rule run damage sent → Whole rule run (length damage) (map (frame_of rule) sent) rs
