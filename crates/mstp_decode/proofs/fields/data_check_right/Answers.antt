-- `mstp_decode::fields::data_check_right` meets its contract: behind the header stand nothing, or the data and two octets of check.
-- Assumes nothing.
use mathlib.Core.Path.{◌≡◌, refl, sym, ap, ap₂, ◌∙◌}
use mathlib.Core.List.{List}
use Prim.Native.Nat.{ℕ, zero, suc, ◌+◌, ◌-◌, ◌≤◌, ◌<◌}
use native.Mathlib.Omega.{arith}
use borrow.Author.Tests.{eq-eqb, ne_eqb}
use lib.ListN.{length, get_or, take, drop, length-drop}
use lib.Seq.{take_all, get_or-drop}
use Rattle.octets.specs.Number.{number}
use Rattle.mstp_frame.specs.Fields.{data_length, data_part, data_check_sent}
use Rattle.mstp_frame.specs.Size.{frame_size}
use Rattle.mstp_frame.proofs.Sizes.{size_none, size_some, size_least}
use Rattle.mstp_decode.specs.Decode.{data_check_right}
use Rattle.mstp_decode.proofs.fields.data_check_right.Goals as goal

-- in a frame of the size that its header says
module _ (s : List ℕ) (sized : length s ≡ frame_size (data_length s)) where
  -- what stands behind the header, as a slice has it
  abbrev rest : List ℕ
  rest = take (length s - 8) (drop 8 s)

  rest_is : rest ≡ drop 8 s
  rest_is = take_all (length s - 8) (drop 8 s) (omega (arith, length-drop 8 s))

  long : 8 ≤ length s
  long = omega (arith, sized, size_least (data_length s))

  none_there : length rest < 2 → data_length s ≡ 0
  none_there short = by (data_length s) refl
    where
      by : (n : ℕ) → n ≡ data_length s → data_length s ≡ 0
      by zero e = sym e
      by (suc n) e = omega (arith, ap length rest_is, length-drop 8 s, sized, size_some (data_length s) (λ z. omega arith))

  module _ (two : 2 ≤ length rest) where
    some_there : data_length s ≡ 0 → ⊥
    some_there none = omega (arith, ap length rest_is, length-drop 8 s, sized, size_none none)

    body_length : length rest - 2 ≡ data_length s
    body_length = omega (arith, ap length rest_is, length-drop 8 s, sized, size_some (data_length s) some_there)

    body_is : take (length rest - 2) rest ≡ data_part s
    unfolding data_part
    body_is = ap₂ (λ (n : ℕ) (l : List ℕ). take n l) body_length rest_is

    sent_at : (i k : ℕ) → data_length s + 8 + i ≡ k → get_or (drop (length rest - 2) rest) i 0 ≡ get_or s k 0
    sent_at i k e =
        ap₂ (λ (n : ℕ) (l : List ℕ). get_or (drop n l) i 0) body_length rest_is
        ∙ get_or-drop (data_length s) (drop 8 s) i 0 ∙ get_or-drop 8 s (data_length s + i) 0 ∙ ap (λ (j : ℕ). get_or s j 0) (omega arith)

pub slice_bounds-split_last_chunk-count : goal.slice_bounds-split_last_chunk-count
slice_bounds-split_last_chunk-count c = long c.args.frame.now c.requires

pub slice_bounds-split_last_chunk-start : goal.slice_bounds-split_last_chunk-start
slice_bounds-split_last_chunk-start c = long c.args.frame.now c.requires

pub returns-in-None : goal.returns-in-None
unfolding data_check_right
returns-in-None c = rw (eq-eqb _ _ (none_there c.args.frame.now c.requires c.in-None.ensures.cases))

pub returns-in-Some : goal.returns-in-Some
unfolding data_check_right data_check_sent
returns-in-Some c =
    let s = c.args.frame.now in
    let chunk = c.in-Some.ensures.cases in
    let two : 2 ≤ length (rest s c.requires) = omega (arith, chunk.2) in
    let low : get_or c.in-Some.sent.now 0 0 ≡ get_or s (data_length s + 8) 0
    = ap (λ (l : List ℕ). get_or l 0 0) chunk.1 ∙ sent_at s c.requires two 0 (data_length s + 8) (omega arith) in
    let high : get_or c.in-Some.sent.now 1 0 ≡ get_or s (data_length s + 9) 0
    = ap (λ (l : List ℕ). get_or l 1 0) chunk.1 ∙ sent_at s c.requires two 1 (data_length s + 9) (omega arith) in
    let sent : c.from_le_bytes.result ≡ number (get_or s (data_length s + 9) 0) (get_or s (data_length s + 8) 0) = omega (arith, c.from_le_bytes.ensures, low, high) in
    rw (ne_eqb _ _ (some_there s c.requires two), c.crc16_mstp.ensures, chunk.0, body_is s c.requires two, sent)
