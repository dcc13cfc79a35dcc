-- The runs that demand 3 speaks of: how they come about, some at the edges of what it asks for, and one whose damage begins a false frame that
-- reaches over two real heads.
-- Assumes nothing.
use Rattle.std.specs.Prelude.{◌≡◌, true, ℕ, ◌+◌, ◌<◌, length, get_or, replicate}
use mathlib.Core.List.{List, [], ◌∷◌, ◌++◌, map, flatten}
use Rattle.octets.specs.Question.{is_yes}
use Rattle.octets.specs.Size.{size_question}
use Rattle.crc.specs.declared.CheckRule.{CheckRule}
use Rattle.crc.specs.declared.CheckRule.TheVariants.{AnnexG}
use Rattle.mstp_frame.specs.declared.MstpFrameType.TheVariants.{Token, BacnetDataExpectingReply, BacnetDataNotExpectingReply}
use Rattle.mstp_encode.specs.Encode.{data_question}
use Rattle.run_search.specs.declared.Report.{Report}
use Rattle.run_search.specs.Search.{report}
use Rattle.run_finder.specs.Reading.{reading}
use Rattle.run_finder.specs.Demand.{Sent, frame_of, HeadOnce, placed, starting_from, starting_late, Filled}

-- a token
abbrev pub token : Sent
token = record { frame_type = Token; destination = 16; source = 5; body = [] }

-- what is heard of damage and of what was sent
abbrev pub heard : CheckRule → List ℕ → List Sent → List ℕ
heard rule damage sent = damage ++ flatten (map (frame_of rule) sent)

-- demand 3 speaks of damage alone, and of each of its runs grown by a frame: of any type, to any address, from any station, of any data that pass
-- question 7, with 55 FF at its head alone, up to question 31
pub record Fills (rule : CheckRule) : Type 0 where
  pub alone : (damage : List ℕ) → is_yes (size_question damage) ≡ true → Filled rule damage damage []
  pub grows : {run damage : List ℕ} {sent : List Sent} → Filled rule run damage sent → (x : Sent) → x.source < 255
      → is_yes (data_question x.body) ≡ true → HeadOnce (frame_of rule x) → is_yes (size_question (run ++ frame_of rule x)) ≡ true
      → Filled rule (run ++ frame_of rule x) damage (sent ++ x ∷ [])

-- demand 3 speaks of these octets, and these reports start late
pub record Late (rule : CheckRule) (damage : List ℕ) (sent : List Sent) (rs : List Report) : Type 0 where
  pub octets : (i : ℕ) → get_or (heard rule damage sent) i 0 < 256
  pub filled : Filled rule (heard rule damage sent) damage sent
  pub late : starting_late (length damage) (reading rule (heard rule damage sent)) ≡ rs

-- a frame from the last station to all, whose n data octets are 55
abbrev pub from254 : ℕ → Sent
from254 n = record { frame_type = BacnetDataNotExpectingReply; destination = 255; source = 254; body = replicate n 0x55 }

-- it, and a token
abbrev pub then_token : ℕ → List Sent
then_token n = from254 n ∷ token ∷ []

-- the edges, under either rule
pub record Edges (rule : CheckRule) : Type 0 where
  -- no damage; as many data octets as there may be, and the token at 511
  pub undamaged : Late rule [] (then_token 501) (report 511 8 ∷ [])
  -- as many octets as there may be, and the token 510 octets after the damage
  pub longest : Late rule (replicate 65017 0) (then_token 500) (report 65527 8 ∷ [])
  pub size : length (heard rule (replicate 65017 0) (then_token 500)) ≡ 65535

-- the front of a header that says 501 data octets, up to its check, which is 55
abbrev pub false_head : List ℕ
false_head = 0x55 ∷ 0xFF ∷ 0x06 ∷ 0x25 ∷ 0x05 ∷ 0x01 ∷ 0xF5 ∷ []

-- a frame of 493 data octets, whose first octet is taken for that check
abbrev pub overlapped : Sent
overlapped = record { frame_type = BacnetDataExpectingReply; destination = 66; source = 100; body = replicate 493 0x11 }

-- it, and a token, whose first octet is taken for the last of the false frame
abbrev pub sent : List Sent
sent = overlapped ∷ token ∷ []

-- the false frame is all that is read: the token, which starts 503 octets after the damage, is not found
pub record FalseFrame : Type 0 where
  pub covered : Late AnnexG false_head sent []
  pub read : reading AnnexG (heard AnnexG false_head sent) ≡ report 0 511 ∷ []
  pub too_few : starting_from (7 + 503) (reading AnnexG (heard AnnexG false_head sent)) ≡ starting_from (7 + 503) (placed 7 (map (frame_of AnnexG) sent)) → ⊥

-- all of it
pub record Example : Type 0 where
  pub fills : (rule : CheckRule) → Fills rule
  pub edges : (rule : CheckRule) → Edges rule
  pub false_frame : FalseFrame
