-- An acceptable frame is one that reading accepts, with a source other than 255 and at most 501 data octets; only the octets that its length says can be one.
-- Assumes nothing.
use mathlib.Core.Path.{◌≡◌, refl, sym, ap, ◌∙◌}
use mathlib.Core.Bool.{Bool, true, false, ◌&&◌, not, and-true, and-false}
use mathlib.Core.List.{List}
use Prim.Native.Nat.{ℕ, ◌≤◌, ◌<◌}
use native.Mathlib.Omega.{arith}
use borrow.Author.Tests.{eqb-true, eqb-false, lt-leb, leb-true, leb-false, not-true}
use lib.Dec.{eqb, leb}
use lib.ListN.{length, get_or, take, length-take}
use lib.Seq.{get_or-take, take-take, take-length}
use Rattle.octets.specs.Question.{first_no}
use Rattle.octets.proofs.Parts.{Octets, octets_take}
use Rattle.octets.proofs.Questions.{excusing_none}
use Rattle.octets.proofs.Tests.{both_true}
use Rattle.crc.specs.declared.CheckRule.{CheckRule}
use Rattle.mstp_frame.specs.Size.{frame_size}
use Rattle.mstp_frame.proofs.Sizes.{size_least}
use Rattle.mstp_frame.specs.Fields.{frame_type, source_of, data_length}
use Rattle.mstp_decode.specs.Decode.{decode_questions, decode_question}
use Rattle.mstp_decode.proofs.Accepted.{Accepted, accepted}
use Rattle.validation_mstp.specs.Validity.{reading_questions}
use Rattle.validation_mstp.proofs.Validity.{valid_as_read}
use Rattle.run_search.specs.Acceptable.{acceptable, own_count, own_octets}

-- what an acceptable frame is
pub record Facts (rule : CheckRule) (f : List ℕ) : Type 0 where
  pub read : Accepted rule f
  pub sender : source_of f ≡ 255 → ⊥
  pub short : data_length f ≤ 501

module _ (rule : CheckRule) (f : List ℕ) (octets : Octets f) where
  -- where the type is 0 to 7, the validator excuses no question of reading
  pub acceptable_read : acceptable rule f ≡ eqb (decode_question rule f) 0 && (not (eqb (source_of f) 255) && leb (data_length f) 501)
  unfolding acceptable decode_question reading_questions
  acceptable_read = rw (valid_as_read rule f octets) (by (leb (frame_type f) 7) refl)
    where
      rest : Bool
      rest = not (eqb (source_of f) 255) && leb (data_length f) 501

      refused : leb (frame_type f) 7 ≡ false → (a : Bool) → eqb (decode_question rule f) 0 ≡ a → false ≡ a && rest
      refused e true asked =
          let a = accepted rule f (eqb-true (decode_question rule f) 0 asked) in
          absurd (omega (arith, a.known, leb-false (frame_type f) 7 e))
      refused e false asked = refl

      by : (b : Bool) → leb (frame_type f) 7 ≡ b
          → (eqb (first_no (reading_questions rule f)) 0 && rest) && b ≡ eqb (first_no (decode_questions rule f)) 0 && rest
      by true e =
          rw (and-true (eqb (first_no (reading_questions rule f)) 0 && rest), lt-leb 128 (frame_type f) (omega (arith, leb-true (frame_type f) 7 e)), excusing_none 3 (decode_questions rule f))
      by false e = and-false (eqb (first_no (reading_questions rule f)) 0 && rest) ∙ refused e (eqb (decode_question rule f) 0) refl

  pub facts : acceptable rule f ≡ true → Facts rule f
  facts e =
      let a = both_true (eqb (decode_question rule f) 0) (not (eqb (source_of f) 255) && leb (data_length f) 501) (sym acceptable_read ∙ e) in
      let b = both_true (not (eqb (source_of f) 255)) (leb (data_length f) 501) a.1 in
      record {
        read = accepted rule f (eqb-true (decode_question rule f) 0 a.0);
        sender = eqb-false (source_of f) 255 (not-true (eqb (source_of f) 255) b.0);
        short = leb-true (data_length f) 501 b.1;
      }

  pub unacceptable : (Facts rule f → ⊥) → false ≡ acceptable rule f
  unacceptable not_so = by (acceptable rule f) refl
    where
      by : (b : Bool) → acceptable rule f ≡ b → false ≡ b
      by true e = absurd (not_so (facts e))
      by false e = refl

-- the octets that a frame's length says

module _ (s : List ℕ) where
  -- they are a front of s
  pub own_inside : length (own_octets s) ≤ length s
  unfolding own_octets
  own_inside = omega (arith, length-take (own_count s) s)

  -- a front of s of 8 octets or more has its length
  length_front : (n : ℕ) → 8 ≤ n → data_length (take n s) ≡ data_length s
  unfolding data_length
  length_front n h = rw (get_or-take n s 5 0 (omega arith), get_or-take n s 6 0 (omega arith))

  pub own_length : data_length (own_octets s) ≡ data_length s
  unfolding own_octets
  own_length = length_front (own_count s) (size_least (data_length s))

  -- and its header
  pub own_header : (i : ℕ) → i < 8 → get_or (own_octets s) i 0 ≡ get_or s i 0
  unfolding own_octets
  own_header i h = get_or-take (own_count s) s i 0 (omega (arith, size_least (data_length s)))

  module _ (rule : CheckRule) (octets : Octets s) where
    pub own_octets_lem : Octets (own_octets s)
    unfolding own_octets
    own_octets_lem = octets_take (own_count s) s octets

    -- an acceptable frame has them all
    pub own_size : acceptable rule (own_octets s) ≡ true → length (own_octets s) ≡ own_count s
    own_size e = (facts rule (own_octets s) own_octets_lem e).read.size ∙ ap frame_size own_length

    -- so has any front of s that is acceptable
    pub front_size : (n : ℕ) → acceptable rule (take n s) ≡ true → (8 ≤ length (take n s)) × (length (take n s) ≡ own_count s)
    front_size n e =
        let a = (facts rule (take n s) (octets_take n s octets) e).read in
        (a.long, a.size ∙ ap frame_size (length_front n (omega (arith, a.long, length-take n s))))

    -- no other front of s is acceptable
    only_own : (n : ℕ) → acceptable rule (take n s) ≡ true → take n s ≡ own_octets s
    unfolding own_octets
    only_own n e =
        sym (take-length (take n s)) ∙ take-take (length (take n s)) n s (omega (arith, length-take n s)) ∙ ap (λ (k : ℕ). take k s) (front_size n e).1

    pub none_else : acceptable rule (own_octets s) ≡ false → (n : ℕ) → acceptable rule (take n s) ≡ false
    none_else none n = by (acceptable rule (take n s)) refl
      where
        by : (b : Bool) → acceptable rule (take n s) ≡ b → b ≡ false
        by false e = refl
        by true e = sym e ∙ ap (acceptable rule) (only_own n e) ∙ none
