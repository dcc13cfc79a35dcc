-- The texts as the walk meets them, and how many they can be.
-- Assumes nothing.
use mathlib.Core.Path.{◌≡◌, refl, sym, ap, ◌∙◌}
use mathlib.Core.Bool.{Bool, true, false, cond}
use mathlib.Core.List.{List, [], ◌∷◌, ◌++◌, append-nil}
use mathlib.Core.Logic.{⊎_elim}
use Prim.Native.Nat.{ℕ, zero, suc, ◌+◌, ◌*◌, ◌-◌, ◌≤◌, ◌<◌}
use native.Mathlib.Decide.{dec_le}
use native.Mathlib.Nat.{eq-or-lt_of_le, zero-add}
use native.Mathlib.Omega.{arith, by_contra}
use borrow.Author.Tests.{leb-true, leb-false, lt-leb}
use lib.Dec.{leb}
use lib.ListN.{length, get_or, take, drop, length-append, length-drop, take-append-drop}
use lib.Seq.{get_or-drop, get_or-take, length-take-le, take_all}
use Rattle.std.specs.Prelude.{Option, None, Some}
use Rattle.std.specs.Bool.{then_some}
use Rattle.std.specs.List.{flat_map}
use Rattle.std.specs.Option.{option_to_list}
use Rattle.std.proofs.lemmas.Grind.{flat_map-append}
use Rattle.runs.specs.Front.{front}
use Rattle.runs.proofs.Front.{front_le, front_all, front_stops, front_turn, front_stop}
use Rattle.padding.specs.Padding.{last, padding_length}
use Rattle.patterns.specs.declared.pattern.Pattern.{Pattern}
use Rattle.patterns.specs.declared.pattern.Pattern.TheVariants.{Padding, AsciiText, Zeros, Sequence}
use Rattle.patterns.specs.Stretches.{Stretch, stretch, before, stretches}
use Rattle.patterns.specs.Entries.{when, padding, printable, text, texts, has_zeros, has_sequence, entries}
use Rattle.patterns.specs.Steps.{Passed}
use Rattle.patterns.proofs.Stretches.{stretches_on, on_turn, on_end, ended, stretches_past}
use Rattle.patterns.proofs.Paddings.{padding_le, padding_all}

-- a pattern that may be there is one or none
pub length_option : (o : Option Pattern) → length (option_to_list o) ≤ 1
length_option None = omega arith
length_option (Some e) = omega arith

-- those that start at place i or later
abbrev pub texts_on : List ℕ → ℕ → List Pattern
texts_on s i = flat_map text (stretches_on printable s i)

pub texts_all : (s : List ℕ) → texts s ≡ texts_on s 0
unfolding texts stretches
texts_all s = let z : length s - 0 ≡ length s = omega arith in rw z

module _ (s : List ℕ) (i : ℕ) where
  pub texts_end : length s ≤ i → texts_on s i ≡ []
  texts_end h = rw (on_end printable s i h)

  module _ (k : ℕ) (h : i < length s) (e : k ≡ front printable (drop i s)) where
    text_ends : i + k ≤ length s
    text_ends = omega (arith, front_le printable (drop i s), length-drop i s)

    -- the one at i, if it is long enough, and those behind
    texts_turn : before printable s i ≡ false → texts_on s i ≡ when (leb 4 k) (AsciiText i k) ++ texts_on s (i + (k + 1))
    unfolding text
    texts_turn f =
        ap (λ (ts : List Stretch). flat_map text ts) (on_turn printable s i k h f e)
        ∙ flat_map-append text (cond (printable (get_or s i 0)) (stretch i k ∷ []) []) (stretches_on printable s (i + (k + 1)))
        ∙ ap (λ (es : List Pattern). es ++ texts_on s (i + (k + 1))) (one (printable (get_or s i 0)) refl)
      where
        one : (b : Bool) → printable (get_or s i 0) ≡ b → flat_map text (cond b (stretch i k ∷ []) []) ≡ when (leb 4 k) (AsciiText i k)
        one true g = append-nil (text (stretch i k))
        one false g = let z : k ≡ 0 = e ∙ front_stop printable s i h g in rw z

-- octets up to one that ends every text before it
module _ (s : List ℕ) (i n : ℕ) (ends : i + n < length s → printable (get_or s (i + n) 0) ≡ false) where
  -- no more pass
  stops_by : front printable (drop i s) ≤ n
  stops_by =
      by_contra (front printable (drop i s)) n
      (λ l.
      let e = rw (get_or-drop i s n 0) at (front_all printable (drop i s) n l) in
      let f = ends (omega (arith, front_le printable (drop i s), length-drop i s)) in
      let z : ◌≡◌ {A = ℕ} 0 1 = cc in
      omega arith)

  -- if they are fewer than 4, none starts there; `more` says so of what stands behind the first octet that does not pass
  skip_turn : (k : ℕ) → k ≡ front printable (drop i s) → n < 4 → (i < length s → before printable s i ≡ false)
      → (k < n → texts_on s (i + (k + 1)) ≡ texts_on s (i + (n + 1))) → texts_on s i ≡ texts_on s (i + (n + 1))
  skip_turn k e few free more = by (dec_le (length s) i)
    where
      by : Dec (length s ≤ i) → texts_on s i ≡ texts_on s (i + (n + 1))
      by (yes l) = texts_end s i l ∙ sym (texts_end s (i + (n + 1)) (omega arith))
      by (no l) =
          let le : k ≤ n = omega (arith, stops_by) in
          rw (lt-leb 4 k (omega arith)) at (texts_turn s i k (omega arith) e (free (omega arith)))
          ∙ ⊎_elim (λ same. ap (λ (j : ℕ). texts_on s (i + (j + 1))) same) more (eq-or-lt_of_le {n = k} {m = n} le)

texts_skip : (s : List ℕ) (m i n : ℕ) → n ≤ m → n < 4 → (i + n < length s → printable (get_or s (i + n) 0) ≡ false)
    → (i < length s → before printable s i ≡ false) → texts_on s i ≡ texts_on s (i + (n + 1))
texts_skip s zero i n le few ends free = skip_turn s i n ends (front printable (drop i s)) refl few free (λ l. absurd (omega arith))
texts_skip s (suc m) i n le few ends free =
    skip_turn s i n ends k refl few free
    (λ l.
    let p : i + (k + 1) + (n - (k + 1)) ≡ i + n = omega arith in
    let q : i + (k + 1) + (n - (k + 1) + 1) ≡ i + (n + 1) = omega arith in
    rw q at (texts_skip s m (i + (k + 1)) (n - (k + 1)) (omega arith) (omega arith) (rw p ends) (ended printable s i k refl)))
  where
    k : ℕ
    k = front printable (drop i s)

-- octets that a turn passes over: 4 that pass and more
module _ (s : List ℕ) (i : ℕ) where
  over : (n : ℕ) → i + n ≤ length s → ((j : ℕ) → j < n → printable (get_or s (i + j) 0) ≡ true)
      → front printable (drop i s) ≡ n + front printable (drop (i + n) s)
  over zero h all = let z : i + 0 ≡ i = omega arith in rw z (sym (zero-add (front printable (drop i s))))
  over (suc n) h all =
      let z : i + n + 1 ≡ i + suc n = omega arith in
      let e = rw z at (front_turn printable s (i + n) (omega arith) (all n (omega arith))) in
      omega (arith, over n (omega arith) (λ j l. all j (omega arith)))

  pub passed_text : {first : List ℕ} {n : ℕ} → 4 ≤ length s - i → first ≡ take 4 (take (length s - i) (drop i s))
      → ((j : ℕ) → j < length first → printable (get_or first j 0) ≡ true) → n ≡ front printable (drop (i + 4) s)
      → Passed s i (4 + n)
  passed_text {first} {n} enough four all e =
      let size = length-drop i s in
      let same : first ≡ take 4 (drop i s) = four ∙ ap (take 4) (take_all (length s - i) (drop i s) (omega arith)) in
      let pass : (j : ℕ) → j < 4 → printable (get_or s (i + j) 0) ≡ true
      = λ j l.
      rw (get_or-take 4 (drop i s) j 0 l, get_or-drop i s j 0) at
      (rw same at (all j (omega (arith, ap length same, length-take-le 4 (drop i s) (omega arith))))) in
      let whole : 4 + n ≡ front printable (drop i s) = omega (arith, over 4 (omega arith) pass) in
      let le = front_le printable (drop i s) in
      record {
        inside = omega arith;
        whole = λ l. whole;
        ends = λ l. rw whole (rw (get_or-drop i s (front printable (drop i s)) 0) at (front_stops printable (drop i s) (omega arith)));
      }

-- the text, if they are one, and those behind
module _ {s : List ℕ} {i n : ℕ} (p : Passed s i n) where
  pub passed_turn : i < length s → before printable s i ≡ false → texts_on s i ≡ when (leb 4 n) (AsciiText i n) ++ texts_on s (i + (n + 1))
  passed_turn h free = go (leb 4 n) refl
    where
      go : (b : Bool) → leb 4 n ≡ b → texts_on s i ≡ when b (AsciiText i n) ++ texts_on s (i + (n + 1))
      go true e = rw e at (texts_turn s i n h (p.whole (leb-true 4 n e)) free)
      go false e = texts_skip s n i n (omega arith) (leb-false 4 n e) p.ends (λ l. free)

  pub passed_free : i + (n + 1) < length s → before printable s (i + (n + 1)) ≡ false
  unfolding before
  passed_free h = let z : i + (n + 1) ≡ suc (i + n) = omega arith in rw z (p.ends (omega arith))

-- a text and the octet that ends it are at least five
five : (k : ℕ) (e : Pattern) (b : Bool) → leb 4 k ≡ b → 5 * length (when b e) ≤ k + 1
five k e true f = let l = leb-true 4 k f in omega arith
five k e false f = omega arith

few_on : (s : List ℕ) (m i : ℕ) → length s ≤ i + m → (i < length s → before printable s i ≡ false) → 5 * length (texts_on s i) ≤ length s - i + 1
few_on s zero i h f = omega (arith, ap length (texts_end s i (omega arith)))
few_on s (suc m) i h f = by (dec_le (length s) i) (few_on s m (i + (k + 1)) (omega arith) (ended printable s i k refl))
  where
    k : ℕ
    k = front printable (drop i s)

    by : Dec (length s ≤ i) → 5 * length (texts_on s (i + (k + 1))) ≤ length s - (i + (k + 1)) + 1 → 5 * length (texts_on s i) ≤ length s - i + 1
    by (yes l) more = omega (arith, ap length (texts_end s i l))
    by (no l) more =
        let e = AsciiText i k in
        let turn = texts_turn s i k (omega arith) refl (f (omega arith)) in
        omega (
          arith,
          ap length turn,
          length-append (when (leb 4 k) e) (texts_on s (i + (k + 1))),
          five k e (leb 4 k) refl,
          text_ends s i k (omega arith) refl,
        )

-- the last may end with the frame
pub texts_few : (s : List ℕ) → 5 * length (texts s) ≤ length s + 1
unfolding before
texts_few s = omega (arith, ap length (texts_all s), few_on s (length s) 0 (omega arith) (λ l. refl))

-- there is at most one padding
pub padding_few : (s : List ℕ) → length (padding s) ≤ 1
unfolding padding
padding_few s = length_option (then_some (leb 4 (padding_length s)) (Padding (length s - padding_length s) (padding_length s) (last s)))

-- at most three entries are no texts
pub entries_few : (s : List ℕ) → 5 * length (entries s) ≤ length s + 16
unfolding entries
entries_few s =
    simp length-append
    (omega (arith, padding_few s, texts_few s, length_option (then_some (has_zeros s) Zeros), length_option (then_some (has_sequence s) Sequence)))

-- a padding that is not printable adds none
pub texts_unpadded : (s : List ℕ) {n : ℕ} → n ≡ padding_length s → printable (last s) ≡ false → texts (take (length s - n) s) ≡ texts s
texts_unpadded s {n} e f =
    texts_all front_part
    ∙ ap (λ (ts : List Stretch). flat_map text ts)
    (sym (stretches_past printable front_part (drop (length s - n) s) none) ∙ rw (take-append-drop (length s - n) s))
    ∙ sym (texts_all s)
  where
    front_part : List ℕ
    front_part = take (length s - n) s

    none : (j : ℕ) → j < length (drop (length s - n) s) → printable (get_or (drop (length s - n) s) j 0) ≡ false
    none j l =
        let short = length-drop (length s - n) s in
        let le = padding_le s in
        rw (get_or-drop (length s - n) s j 0, padding_all s (length s - n + j) (omega arith) (omega arith)) f
