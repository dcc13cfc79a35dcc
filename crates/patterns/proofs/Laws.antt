-- The entries in the lent list are the paddings and the texts of the frame, all of them.
-- Assumes nothing.
use mathlib.Core.Path.{◌≡◌, refl, sym, ap, ◌∙◌}
use mathlib.Core.Bool.{Bool, true, false}
use mathlib.Core.List.Memᴰ
use mathlib.Core.List.{List, [], ◌∷◌, ◌++◌, append_assoc, Memᴰ}
use mathlib.Core.Logic.{◌⊎◌, ⊎_elim}
use Prim.Native.Nat.{ℕ, zero, suc, ◌*◌, ◌-◌, ◌≤◌, ◌<◌}
use native.Mathlib.Omega.{arith}
use borrow.Author.Tests.{leb-true, le-leb}
use lib.Dec.{leb}
use lib.ListN.{length, take, drop}
use Rattle.std.specs.List.{flat_map}
use Rattle.padding.specs.Padding.{last, padding_length}
use Rattle.patterns.specs.declared.pattern.Pattern.{Pattern}
use Rattle.patterns.specs.declared.pattern.Pattern.TheVariants.{Padding as PaddingEntry, AsciiText, Zeros, Sequence}
use Rattle.patterns.specs.Stretches.{Stretch, stretch, stretches}
use Rattle.patterns.specs.Entries.{padding_pattern, text_pattern, when, padding, printable, text, texts, has_zeros, has_sequence, entries, numbers_of, entry_numbers}
use Rattle.patterns.specs.Laws.{numbers_at, Shown, Padding, Text}
use Rattle.patterns.proofs.Stretches.{each, every}
use Rattle.patterns.proofs.Paddings.{padding_is, padding_only}

-- members of a list, and the numbers of entries in it

record AtPlace (es : List Pattern) (l : List ℕ) (k : ℕ) : Type 0 where
  one : Pattern
  member : Memᴰ one es
  numbered : numbers_at l k ≡ numbers_of one

record PlaceOf (es : List Pattern) (l : List ℕ) (e : Pattern) : Type 0 where
  place : ℕ
  less : place < length es
  numbered : numbers_at l place ≡ numbers_of e

-- entry 0 of a list is the first four numbers, and entry k + 1 is entry k of what stands behind them
at_zero : (e : Pattern) (l : List ℕ) → numbers_at (numbers_of e ++ l) 0 ≡ numbers_of e
at_zero (PaddingEntry i n v) l = refl
at_zero (AsciiText i n) l = refl
at_zero Zeros l = refl
at_zero Sequence l = refl

at_suc : (e : Pattern) (l : List ℕ) (k : ℕ) → numbers_at (numbers_of e ++ l) (suc k) ≡ numbers_at l k
at_suc e l k = let z : 4 * suc k ≡ suc (suc (suc (suc (4 * k)))) = omega arith in rw z (ap (take 4) (behind e))
  where
    behind : (e : Pattern) → drop (suc (suc (suc (suc (4 * k))))) (numbers_of e ++ l) ≡ drop (4 * k) l
    behind (PaddingEntry i n v) = refl
    behind (AsciiText i n) = refl
    behind Zeros = refl
    behind Sequence = refl

module _ (rest : List ℕ) where
  -- the numbers of an entry and of those behind it
  numbers_more : (e : Pattern) (es : List Pattern) → entry_numbers (e ∷ es) ++ rest ≡ numbers_of e ++ (entry_numbers es ++ rest)
  unfolding entry_numbers
  numbers_more e es = rw append_assoc

  at_place : (es : List Pattern) (k : ℕ) → k < length es → AtPlace es (entry_numbers es ++ rest) k
  at_place [] k h = absurd (omega arith)
  at_place (e ∷ es) zero h = rw (numbers_more e es) (record { one = e; member = Memᴰ.head refl; numbered = at_zero e (entry_numbers es ++ rest) })
  at_place (e ∷ es) (suc k) h =
      let more = at_place es k (omega arith) in
      rw (numbers_more e es)
      (record {
        one = more.one;
        member = Memᴰ.tail more.member;
        numbered = at_suc e (entry_numbers es ++ rest) k ∙ more.numbered;
      })

  place_of : (es : List Pattern) (e : Pattern) → Memᴰ e es → PlaceOf es (entry_numbers es ++ rest) e
  place_of [] e m = absurd (Memᴰ.not-nil m)
  place_of (x ∷ es) e m = rw (numbers_more x es) (go (Memᴰ.cases_cons m) (place_of es e))
    where
      go : (e ≡ x) ⊎ Memᴰ e es → (Memᴰ e es → PlaceOf es (entry_numbers es ++ rest) e)
          → PlaceOf (x ∷ es) (numbers_of x ++ (entry_numbers es ++ rest)) e
      go c more =
          ⊎_elim
          (λ same. record { place = 0; less = omega arith; numbered = at_zero x (entry_numbers es ++ rest) ∙ ap numbers_of (sym same) })
          (λ m.
          let w = more m in
          record {
            place = suc w.place;
            less = omega (arith, w.less);
            numbered = at_suc x (entry_numbers es ++ rest) w.place ∙ w.numbered;
          })
          c

-- entries of a pattern

-- an entry with these numbers
abbrev Numbered : Pattern → ℕ → ℕ → ℕ → ℕ → Type 0
Numbered e pattern i m v = numbers_of e ≡ pattern ∷ i ∷ m ∷ v ∷ []

-- those of a pattern in a list of entries are the ones that P allows
record Has (pattern : ℕ) (P : ℕ → ℕ → ℕ → Type 0) (es : List Pattern) : Type 0 where
  each_one : (e : Pattern) → Memᴰ e es → (i m v : ℕ) → Numbered e pattern i m v → P i m v
  every_one : (i m v : ℕ) → P i m v → (e : Pattern) × (Memᴰ e es × Numbered e pattern i m v)

-- so they are in its numbers
shown : (pattern : ℕ) (P : ℕ → ℕ → ℕ → Type 0) (es : List Pattern) (rest : List ℕ) → Has pattern P es
    → Shown pattern P (length es) (entry_numbers es ++ rest)
shown pattern P es rest h = record {
  each = λ k i m v at.
      let w = at_place rest es k at.0 in
      h.each_one w.one w.member i m v (sym w.numbered ∙ at.1);
  every = λ i m v p.
      let found = h.every_one i m v p in
      let w = place_of rest es found.0 found.1.0 in
      (w.place, (w.less, w.numbered ∙ found.1.1));
}

-- padding, texts, marks

-- an entry under a condition, if it is in the list, is that entry, and the condition holds
in_when : (b : Bool) (e x : Pattern) → Memᴰ x (when b e) → (b ≡ true) × (x ≡ e)
in_when true e x m = (refl, Memᴰ.eq_of_singleton m)
in_when false e x m = absurd (Memᴰ.not-nil m)

when_in : {b : Bool} (e : Pattern) → b ≡ true → Memᴰ e (when b e)
when_in e f = rw f (Memᴰ.head refl)

record FromStretch (ts : List Stretch) (e : Pattern) : Type 0 where
  one : Stretch
  member : Memᴰ one ts
  inside : Memᴰ e (text one)

from_stretch : (ts : List Stretch) (e : Pattern) → Memᴰ e (flat_map text ts) → FromStretch ts e
from_stretch [] e m = absurd (Memᴰ.not-nil m)
from_stretch (t ∷ ts) e m =
    ⊎_elim (λ here. record { one = t; member = Memᴰ.head refl; inside = here })
    (λ there. let w = from_stretch ts e there in record { one = w.one; member = Memᴰ.tail w.member; inside = w.inside })
    (Memᴰ.append_cases (text t) m)

of_stretch : (ts : List Stretch) (t : Stretch) (e : Pattern) → Memᴰ t ts → Memᴰ e (text t) → Memᴰ e (flat_map text ts)
of_stretch [] t e m h = absurd (Memᴰ.not-nil m)
of_stretch (u ∷ ts) t e m h =
    ⊎_elim (λ same. Memᴰ.append_left (flat_map text ts) (rw same at h)) (λ there. Memᴰ.append_right (text u) (of_stretch ts t e there h))
    (Memᴰ.cases_cons m)

module _ (s : List ℕ) where
  -- the padding
  abbrev the_padding : Pattern
  the_padding = PaddingEntry (length s - padding_length s) (padding_length s) (last s)

  -- an entry of the padding, of the texts, and of the rest
  record OfPadding (e : Pattern) : Type 0 where
    long : 4 ≤ padding_length s
    is : e ≡ the_padding

  of_padding : (e : Pattern) → Memᴰ e (padding s) → OfPadding e
  unfolding padding
  of_padding e m =
      let w = in_when (leb 4 (padding_length s)) the_padding e m in
      record { long = leb-true 4 (padding_length s) w.0; is = w.1 }

  record OfTexts (e : Pattern) : Type 0 where
    place : ℕ
    many : ℕ
    is : e ≡ AsciiText place many
    holds : Text s place many 0

  of_texts : (e : Pattern) → Memᴰ e (texts s) → OfTexts e
  unfolding texts text
  of_texts e m =
      let w = from_stretch (stretches printable s) e m in
      let t = w.one in
      let v = in_when (leb 4 t.length) (AsciiText t.start t.length) e w.inside in
      let max = each printable s t w.member in
      let some = leb-true 4 t.length v.0 in
      record { place = t.start; many = t.length; is = v.1; holds = record { some = some; maximal = max; value = refl } }

  -- the four parts of the entries, by numbers that one of them has
  entry_cases : (P : Type 0) (e : Pattern) → Memᴰ e (entries s)
      → (OfPadding e → P) → (OfTexts e → P) → (e ≡ Zeros → P) → (e ≡ Sequence → P) → P
  unfolding entries
  entry_cases P e m f g z q =
      ⊎_elim (λ a. f (of_padding e a))
      (λ b.
      ⊎_elim (λ a. g (of_texts e a))
      (λ b.
      ⊎_elim (λ a. z (in_when (has_zeros s) Zeros e a).1)
      (λ a. q (in_when (has_sequence s) Sequence e a).1)
      (Memᴰ.append_cases (when (has_zeros s) Zeros) b))
      (Memᴰ.append_cases (texts s) b))
      (Memᴰ.append_cases (padding s) m)

  -- no entry has two patterns
  others : {ns : List ℕ} {p q i m v j n w : ℕ} → ns ≡ p ∷ i ∷ m ∷ v ∷ [] → ns ≡ q ∷ j ∷ n ∷ w ∷ [] → (p ≡ q → ⊥) → ⊥
  others {p = p} {q = q} are-p are-q differ = let z : p ≡ q = cc in differ z

  has_padding : Has padding_pattern (Padding s) (entries s)
  unfolding entries padding
  has_padding =
      record {
        each_one = λ e m i n v are.
            entry_cases (Padding s i n v) e m
            (λ w.
            let same : numbers_of the_padding ≡ padding_pattern ∷ i ∷ n ∷ v ∷ [] = rw w.is at are in
            let a : length s - padding_length s ≡ i = cc in
            let b : padding_length s ≡ n = cc in
            let c : last s ≡ v = cc in
            rw (a, b, c) at (padding_is s w.long))
            (λ w. absurd (others are (ap numbers_of w.is) (λ z. omega arith)))
            (λ w. absurd (others are (ap numbers_of w) (λ z. omega arith)))
            (λ w. absurd (others are (ap numbers_of w) (λ z. omega arith)));
        every_one = λ i m v h.
            let w = padding_only s i m v h in
            let some = h.some in
            let mem : Memᴰ the_padding (padding s) = when_in the_padding (le-leb 4 (padding_length s) (omega arith)) in (
              the_padding,
              (
                Memᴰ.append_left {s = padding s} (texts s ++ (when (has_zeros s) Zeros ++ when (has_sequence s) Sequence)) mem,
                rw (w.0, w.1.0, w.1.1),
              ),
            );
      }

  has_texts : Has text_pattern (Text s) (entries s)
  unfolding entries texts text
  has_texts =
      record {
        each_one = λ e m i n v are.
            entry_cases (Text s i n v) e m
            (λ w. absurd (others are (ap numbers_of w.is) (λ z. omega arith)))
            (λ w.
            let same : text_pattern ∷ w.place ∷ w.many ∷ 0 ∷ [] ≡ text_pattern ∷ i ∷ n ∷ v ∷ [] = rw w.is at are in
            let a : w.place ≡ i = cc in
            let b : w.many ≡ n = cc in
            let c : 0 ≡ v = cc in
            rw (a, b, c) at w.holds)
            (λ w. absurd (others are (ap numbers_of w) (λ z. omega arith)))
            (λ w. absurd (others are (ap numbers_of w) (λ z. omega arith)));
        every_one = λ i m v h.
            let some = h.some in
            let mem : Memᴰ (AsciiText i m) (texts s)
            = of_stretch (stretches printable s) (stretch i m) (AsciiText i m) (every printable s i m h.maximal)
            (when_in (AsciiText i m) (le-leb 4 m some)) in (
              AsciiText i m,
              (
                Memᴰ.append_right (padding s)
                    (Memᴰ.append_left {s = texts s} (when (has_zeros s) Zeros ++ when (has_sequence s) Sequence) mem),
                rw h.value,
              ),
            );
      }

  -- the promises
  pub shown_padding : (rest : List ℕ) → Shown padding_pattern (Padding s) (length (entries s)) (entry_numbers (entries s) ++ rest)
  shown_padding rest = shown padding_pattern (Padding s) (entries s) rest has_padding

  pub shown_texts : (rest : List ℕ) → Shown text_pattern (Text s) (length (entries s)) (entry_numbers (entries s) ++ rest)
  shown_texts rest = shown text_pattern (Text s) (entries s) rest has_texts
