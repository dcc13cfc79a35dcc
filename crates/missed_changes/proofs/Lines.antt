-- How many octets the lines have, and that a change's line fills the memory that has as many.
-- Assumes nothing.
use mathlib.Core.Path.{◌≡◌, refl}
use mathlib.Core.List.{List, [], ◌∷◌, flat_map}
use Prim.Native.Nat.{ℕ, ◌+◌, ◌*◌, ◌≤◌, ◌<◌}
use native.Mathlib.Nat.{suc-mul}
use native.Mathlib.Omega.{arith}
use lib.ListN.{length, take, drop, length-append, length-take, length-drop}
use Rattle.octets.specs.Put.{Put, put_place, put_output}
use Rattle.octets.proofs.Puts.{put_call, put_size, put_more, put_whole}
use Rattle.text.specs.Text.{letters}
use Rattle.text.proofs.Decimals.{length_field}
use Rattle.missed_changes.specs.Text.{behind_space, spaced, change_line, count_line}

length_behind : (octet : ℕ) → length (behind_space octet) ≡ 3
unfolding behind_space
length_behind octet = refl

length_left : (s : List ℕ) → length (flat_map behind_space s) ≡ length s * 3
unfolding flat_map
length_left [] = refl
length_left (x ∷ s) = simp (length-append, length_behind) (omega (arith, length_left s, suc-mul (length s) 3))

-- a header has 23 octets
length_header : (s : List ℕ) → 8 ≤ length s → length (spaced (take 8 s)) ≡ 23
unfolding spaced
length_header s long = omega (arith, length_left (drop 1 (take 8 s)), length-drop 1 (take 8 s), length-take 8 s)

-- so it fits where 23 are left
pub header_fits : (s : List ℕ) (at size : ℕ) → 8 ≤ length s → at + 23 ≤ size
    → (0 < length (take 8 s)) × (at + length (spaced (take 8 s)) ≤ size)
header_fits s at size long room = (omega (arith, length-take 8 s), omega (arith, length_header s long))

-- a change's line, put in memory of as many octets
module _ (frame changed before : List ℕ) (long : 8 ≤ length frame) (long-2 : 8 ≤ length changed) (size : length before ≡ 56) where
  module _
      {a b : List ℕ} {i j : ℕ} (first : Put (spaced (take 8 frame)) before 0 a i)
      (call : (j ≡ put_place (letters " read as ") a i) × (b ≡ put_output (letters " read as ") a i)) where
    words : Put (letters " read as ") a i b j
    words = put_call (letters " read as ") a i (omega (arith, first.place, put_size first, length_header frame long)) call.0 call.1

    -- behind them there are 24 octets left
    left : (j ≡ 32) × (length b ≡ 56)
    left = (omega (arith, first.place, words.place, length_header frame long), omega (arith, put_size first, put_size words))

    pub second_fits : (0 < length (take 8 changed)) × (j + length (spaced (take 8 changed)) ≤ length b)
    second_fits = header_fits changed j (length b) long-2 (omega (arith, left))

    pub line_is : {c d : List ℕ} {k l : ℕ} → Put (spaced (take 8 changed)) b j c k
        → (l ≡ put_place (letters "\n") c k) × (d ≡ put_output (letters "\n") c k) → d ≡ change_line frame changed
    unfolding change_line
    line_is {c} {d} {k} {l} second last =
        let newline : Put (letters "\n") c k d l =
        put_call (letters "\n") c k
        (omega (arith, left, second.place, put_size second, length_header changed long-2)) last.0 last.1 in
        put_whole (simp length-append (omega (arith, length_header frame long, length_header changed long-2)))
        (put_more first (put_more words (put_more second newline)))

-- a rule's last line has at most 35 octets
pub count_fits : (name : List ℕ) (changes read : ℕ) → length name ≤ 8 → changes ≤ 40960 → read ≤ 40960
    → 0 + length (count_line name changes read) ≤ 35
unfolding count_line
count_fits name changes read short few few-2 =
    simp length-append
    (omega (arith, length_field 4 changes (omega arith), length_field 4 read (omega arith)))
