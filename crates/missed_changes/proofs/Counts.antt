-- Counts of changes added up: what one change adds, what loops add, and that the sums are small.
-- Assumes nothing.
use mathlib.Core.Path.{◌≡◌, ap, subst, ◌∙◌}
use mathlib.Core.Bool.{Bool, true, false, cond, not}
use mathlib.Core.List.{List, [], ◌∷◌}
use Prim.Native.Nat.{ℕ, zero, suc, ◌+◌, ◌*◌, ◌≤◌, ◌<◌}
use native.Mathlib.Nat.{suc-mul}
use native.Mathlib.Numerals.{add-one}
use native.Mathlib.Omega.{arith}
use borrow.Author.Tests.{eq-eqb, ne_eqb}
use lib.ListN.{get_or, set}
use Rattle.std.specs.Prelude.{Result, Ok, Err, is_err}
use Rattle.octets.specs.declared.refusal.Refusal.{Refusal}
use Rattle.crc.specs.declared.CheckRule.{CheckRule}
use Rattle.mstp_frame.specs.declared.MstpFrameType.{MstpFrameType}
use Rattle.mstp_frame.specs.FrameType.{type_of}
use Rattle.mstp_decode.specs.Change.{is_frame}
use Rattle.mstp_decode.specs.Decode.{decode}
use Rattle.mstp_decode.specs.Frame.{encode_frame}
use Rattle.mstp_decode.specs.declared.MstpHeader.{MstpHeader}
use Rattle.missed_changes.specs.declared.Tally.{Tally}
use Rattle.missed_changes.specs.Changes.{Test, is_change, is_missed, sum_to, of_octet, of_place, of_frame, of_pair, of_type, of_all}
use Rattle.missed_changes.specs.Changes.{Tallies, Fit, Sum}

-- a frame is read where the answer is no refusal
pub read_is : (answer : Result MstpHeader Refusal) {refused told : Bool} {right : Result MstpHeader Refusal} → refused ≡ is_err answer → refused ≡ told
    → answer ≡ right → not told ≡ is_frame right
read_is (Ok header) is so same = rw (← so, is, ← same)
read_is (Err refusal) is so same = rw (← so, is, ← same)

-- one octet put at a place
module _ (rule : CheckRule) (frame : List ℕ) (place octet : ℕ) where
  abbrev Tallied : Tally → Type 0
  Tallied tally = Tallies rule (λ test. of_octet test frame place octet) tally

  -- the same octet is no change
  pub unchanged : {tally : Tally} → get_or frame place 0 ≡ octet → (tally.changes ≡ 0) × (tally.read ≡ 0) → Tallied tally
  unfolding of_octet is_change is_missed
  unchanged same none =
      let there = eq-eqb (get_or frame place 0) octet same in
      record { made = rw there none.0; missed = rw there none.1 }

  -- another is one, which is read or not
  pub changed : {tally : Tally} {read : Bool} → (get_or frame place 0 ≡ octet → ⊥)
      → read ≡ is_frame (decode rule (set frame place octet))
      → (tally.changes ≡ 1) × (tally.read ≡ cond read 1 0) → Tallied tally
  unfolding of_octet is_change is_missed
  changed other is one =
      let there = ne_eqb (get_or frame place 0) octet other in
      record { made = rw there one.0; missed = rw there (one.1 ∙ ap (λ (b : Bool). cond b 1 0) is) }

-- a number of at most b for each of n numbers
sum_most : (f : ℕ → ℕ) (b : ℕ) → ((i : ℕ) → f i ≤ b) → (n : ℕ) → sum_to f n ≤ n * b
unfolding sum_to
sum_most f b most zero = omega arith
sum_most f b most (suc n) = omega (arith, sum_most f b most n, most n, suc-mul n b)

-- how many changes there can be
module _ (test : Test) where
  pub octet_most : (s : List ℕ) (place octet : ℕ) → of_octet test s place octet ≤ 1
  unfolding of_octet
  octet_most s place octet = by (test s place octet)
    where
      by : (b : Bool) → cond b 1 0 ≤ 1
      by true = omega arith
      by false = omega arith

  pub place_most : (s : List ℕ) (place : ℕ) → of_place test s place ≤ 256
  unfolding of_place
  place_most s place = sum_most (of_octet test s place) 1 (octet_most s place) 256

  frame_most : (s : List ℕ) → of_frame test s ≤ 1280
  unfolding of_frame
  frame_most s = sum_most (λ i. of_place test s (i + 2)) 256 (λ i. place_most s (i + 2)) 5

  pub pair_most : (rule : CheckRule) (type : MstpFrameType) (destination source : ℕ) → of_pair test rule type destination source ≤ 2560
  unfolding of_pair
  pair_most rule type destination source =
      let frame = encode_frame rule type destination source in
      omega (arith, frame_most (frame []), frame_most (frame (0x01 ∷ 0x02 ∷ 0x03 ∷ [])))

  pub type_most : (rule : CheckRule) (type : MstpFrameType) → of_type test rule type ≤ 5120
  unfolding of_type
  type_most rule type = omega (arith, pair_most rule type 0x10 0x05, pair_most rule type 0xFF 0x82)

  pub all_most : (rule : CheckRule) → of_all test rule ≤ 40960
  unfolding of_all
  all_most rule = sum_most (λ number. of_type test rule (type_of number)) 5120 (λ number. type_most rule (type_of number)) 8

-- a tally of a type is one of an equal type
pub of_type_lem : {rule : CheckRule} {type other : MstpFrameType} {tally : Tally} → type ≡ other
    → Tallies rule (λ test. of_type test rule type) tally → Tallies rule (λ test. of_type test rule other) tally
of_type_lem {rule} {tally = tally} same counted =
    subst (λ (t : MstpFrameType). Tallies rule (λ test. of_type test rule t) tally) same counted

-- two tallies as one
module _ {rule : CheckRule} {f g : Test → ℕ} {a b : Tally} (first : Tallies rule f a) (second : Tallies rule g b) where
  pub fit : ((test : Test) → f test + g test ≤ 65535) → Fit a b
  fit few = (
    omega (arith, few is_change, first.made, second.made),
    omega (arith, few (is_missed rule), first.missed, second.missed),
  )

  pub together : {tally : Tally} → Sum a b tally → Tallies rule (λ test. f test + g test) tally
  together sum = record {
    made = omega (arith, first.made, second.made, sum.0);
    missed = omega (arith, first.missed, second.missed, sum.1);
  }

-- a loop that adds up what is counted for each number below n
module _ (rule : CheckRule) (count : Test → ℕ → ℕ) (n : ℕ) where
  pub record Going (i : ℕ) (tally : Tally) : Type 0 where
    pub within : i ≤ n
    pub so : Tallies rule (λ test. sum_to (count test) i) tally

  pub going_start : {tally : Tally} → (tally.changes ≡ 0) × (tally.read ≡ 0) → Going 0 tally
  unfolding sum_to
  going_start none = record { within = omega arith; so = record { made = none.0; missed = none.1 } }

  module _ (i : ℕ) {a b : Tally} (more : i < n) (so : Going i a) (next : Tallies rule (λ test. count test i) b) where
    pub going_fits : (most : ℕ) → ((test : Test) (j : ℕ) → count test j ≤ most) → i * most + most ≤ 65535 → Fit a b
    going_fits most few room = fit so.so next (λ test. omega (arith, sum_most (count test) most (few test) i, few test i))

    pub going_next : {tally : Tally} → Sum a b tally → Going (i + 1) tally
    unfolding sum_to
    going_next sum = record { within = omega arith; so = rw (add-one i) (together so.so next sum) }

  pub going_end : {i : ℕ} {tally : Tally} → n ≤ i → Going i tally → Tallies rule (λ test. sum_to (count test) n) tally
  going_end {i} {tally} end going =
      let last : i ≡ n = omega (arith, going.within) in
      subst (λ (j : ℕ). Tallies rule (λ test. sum_to (count test) j) tally) last going.so
