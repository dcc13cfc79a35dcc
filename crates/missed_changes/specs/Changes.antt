-- One header octet of a frame changed, in every way: how many changes there are, and how many are read all the same.
-- Assumes nothing.
use Rattle.std.specs.Prelude.{◌≡◌, Bool, cond, not, ◌&&◌, List, [], ◌∷◌, ℕ, zero, suc, ◌+◌, ◌≤◌, eqb, get_or, set}
use Rattle.crc.specs.declared.CheckRule.{CheckRule}
use Rattle.mstp_frame.specs.FrameType.{type_of}
use Rattle.mstp_frame.specs.declared.MstpFrameType.{MstpFrameType}
use Rattle.mstp_decode.specs.Change.{is_frame}
use Rattle.mstp_decode.specs.Decode.{decode}
use Rattle.mstp_decode.specs.Frame.{encode_frame}
use Rattle.missed_changes.specs.declared.Tally.{Tally}

-- a test of a change: the frame, the place, and the octet that is put there
abbrev pub Test : Type 0
Test = List ℕ → ℕ → ℕ → Bool

-- the octet is another than the frame's
unfoldable pub is_change : Test
is_change frame place octet = not (eqb (get_or frame place 0) octet)

-- and the frame with it is read
unfoldable pub is_missed : CheckRule → Test
is_missed rule frame place octet = is_change frame place octet && is_frame (decode rule (set frame place octet))

-- what f gives for the numbers below n, added up
unfoldable pub sum_to : (ℕ → ℕ) → ℕ → ℕ
sum_to f zero = 0
sum_to f (suc n) = sum_to f n + f n

module _ (test : Test) where
  -- 1 for an octet at a place that passes the test, 0 for one that does not
  unfoldable pub of_octet : List ℕ → ℕ → ℕ → ℕ
  of_octet frame place octet = cond (test frame place octet) 1 0

  -- how many pass it, of all octets at a place
  unfoldable pub of_place : List ℕ → ℕ → ℕ
  of_place frame place = sum_to (of_octet frame place) 256

  -- of the five places that the header check covers, from 2 on
  unfoldable pub of_frame : List ℕ → ℕ
  of_frame frame = sum_to (λ i. of_place frame (i + 2)) 5

  module _ (rule : CheckRule) where
    -- of a frame without data and one with three data octets
    unfoldable pub of_pair : MstpFrameType → ℕ → ℕ → ℕ
    of_pair type destination source =
        of_frame (encode_frame rule type destination source [])
        + of_frame (encode_frame rule type destination source (0x01 ∷ 0x02 ∷ 0x03 ∷ []))

    -- of a type, between two pairs of stations
    unfoldable pub of_type : MstpFrameType → ℕ
    of_type type = of_pair type 0x10 0x05 + of_pair type 0xFF 0x82

    -- of all types
    unfoldable pub of_all : ℕ
    of_all = sum_to (λ number. of_type (type_of number)) 8

-- a tally of what `count` counts: the changes, and those of them that are read
pub record Tallies (rule : CheckRule) (count : Test → ℕ) (tally : Tally) : Type 0 where
  pub made : tally.changes ≡ count is_change
  pub missed : tally.read ≡ count (is_missed rule)

-- the counts of two tallies are small enough to be added
abbrev pub Fit : Tally → Tally → Type 0
Fit a b = (a.changes + b.changes ≤ 65535) × (a.read + b.read ≤ 65535)

-- the counts of a tally are those of two others together
abbrev pub Sum : Tally → Tally → Tally → Type 0
Sum a b tally = (tally.changes ≡ a.changes + b.changes) × (tally.read ≡ a.read + b.read)
