-- Entries put one behind another: one, the texts, all.
-- Assumes nothing.
use mathlib.Core.Path.{◌≡◌, refl, sym, ap}
use mathlib.Core.Bool.{false}
use mathlib.Core.List.{List, [], ◌∷◌, ◌++◌, append-nil}
use Prim.Native.Nat.{ℕ, ◌+◌, ◌*◌, ◌/◌, ◌-◌, ◌≤◌, ◌<◌}
use native.Mathlib.Omega.{arith}
use lib.Dec.{leb}
use lib.ListN.{length, length-append}
use borrow.Rule.Slice.PartMut.{put_mid}
use Rattle.std.specs.Prelude.{Option}
use Rattle.std.specs.Option.{option_to_list}
use Rattle.std.proofs.lemmas.Grind.{flat_map-append}
use Rattle.octets.proofs.Puts.{put_part, Putting, putting_start, putting_next, putting_end, put_more, put_size, put_nothing}
use Rattle.patterns.specs.declared.pattern.Pattern.{Pattern}
use Rattle.patterns.specs.declared.pattern.Pattern.TheVariants.{Padding, AsciiText, Zeros, Sequence}
use Rattle.patterns.specs.Stretches.{before as reaches}
use Rattle.patterns.specs.Entries.{when, printable, texts, numbers_of, entry_numbers}
use Rattle.patterns.specs.Steps.{Passed, PutEntries}
use Rattle.patterns.proofs.Texts.{length_option, texts_few, texts_on, texts_all, texts_end, passed_turn, passed_free}

-- entries behind entries
pub entries_more : {es fs : List Pattern} {a b c : List ℕ} {at m n : ℕ} → PutEntries es a at b m → PutEntries fs b m c n → PutEntries (es ++ fs) a at c n
unfolding entry_numbers
entries_more {es} {fs} first second = record {
  count = omega (arith, first.count, second.count, length-append es fs);
  put = λ room.
      let put = first.put (omega (arith, second.count)) in
      rw (flat_map-append numbers_of es fs) (put_more put (second.put (omega (arith, put_size put))));
}

-- an entry has four numbers
four : (e : Pattern) → length (numbers_of e) ≡ 4
four (Padding i n v) = refl
four (AsciiText i n) = refl
four Zeros = refl
four Sequence = refl

-- one entry: it is not there, there is room for it, there is none
module _ (at : ℕ) (l : List ℕ) where
  pub put_no : PutEntries [] l at l at
  unfolding entry_numbers
  put_no = record { count = omega arith; put = λ room. put_nothing l (4 * at) room }

  module _ (e : Pattern) where
    pub put_one : {p : List ℕ} → at < length l / 4 → p ≡ numbers_of e → PutEntries (e ∷ []) l at (put_mid (4 * at) (4 * at + 4 - 4 * at) l p) (at + 1)
    unfolding entry_numbers
    put_one {p} h copied =
        let size = four e in
        record {
          count = omega arith;
          put = λ room.
              rw append-nil
              record {
                place = omega arith;
                fits = room;
                list = rw size at (put_part (numbers_of e) l (4 * at) (omega arith) copied);
              };
        }

    pub put_full : length l / 4 ≤ at → PutEntries (e ∷ []) l at l (at + 1)
    put_full h = record { count = omega arith; put = λ room. absurd (omega arith) }

-- the texts: those before place `start` of s are there
pub record Walked (s before : List ℕ) (at start : ℕ) (after : List ℕ) (here : ℕ) : Type 0 where
  pub free : start < length s → reaches printable s start ≡ false
  pub count : here + length (texts_on s start) ≡ at + length (texts s)
  pub put : 4 * here ≤ length before → Putting (entry_numbers (texts s)) before (4 * at) (entry_numbers (texts_on s start)) after (4 * here)

module _ (s before : List ℕ) (at : ℕ) where
  pub walked_start : Walked s before at 0 before at
  unfolding reaches
  walked_start = record {
    free = λ l. refl;
    count = ap (λ (es : List Pattern). at + length es) (sym (texts_all s));
    put = λ room. rw (← (texts_all s)) (putting_start (entry_numbers (texts s)) before (4 * at) room);
  }

  module _ {start here : ℕ} {after : List ℕ} (w : Walked s before at start after here) where
    -- one turn more
    pub walked_turn : {n there : ℕ} {later : List ℕ} → start < length s → Passed s start n
        → PutEntries (when (leb 4 n) (AsciiText start n)) after here later there → Walked s before at (start + (n + 1)) later there
    unfolding entry_numbers
    walked_turn {n} h passed next =
        let one = when (leb 4 n) (AsciiText start n) in
        let more = texts_on s (start + (n + 1)) in
        let turn : texts_on s start ≡ one ++ more = passed_turn passed h (w.free h) in
        record {
          free = passed_free passed;
          count = omega (arith, w.count, ap length turn, length-append one more, next.count);
          put = λ room.
              let so = rw (turn, flat_map-append numbers_of one more) at (w.put (omega (arith, next.count))) in
              putting_next (entry_numbers one) (entry_numbers more) so (next.put (omega (arith, put_size so.put)));
        }

    -- all of them
    pub walked_end : length s ≤ start → PutEntries (texts s) before at after here
    unfolding entry_numbers
    walked_end h =
        let none = texts_end s start h in
        record { count = omega (arith, w.count, ap length none); put = λ room. putting_end (rw none at (w.put room)) }

-- all entries, one pattern behind another: they are few, and all are there
module _ (s : List ℕ) (short : length s ≤ 65535) (o : Option Pattern) {l l1 : List ℕ} {a : ℕ} (first : PutEntries (option_to_list o) l 0 l1 a) where
  pub few_paddings : a ≤ 1
  few_paddings = omega (arith, first.count, length_option o)

  module _ {l2 : List ℕ} {b : ℕ} (second : PutEntries (texts s) l1 a l2 b) where
    pub few_texts : b ≤ 65539
    few_texts = omega (arith, second.count, few_paddings, texts_few s)

    module _ (z : Option Pattern) {l3 : List ℕ} {c : ℕ} (third : PutEntries (option_to_list z) l2 b l3 c) where
      pub few_marks : c ≤ 65540
      few_marks = omega (arith, third.count, length_option z, few_texts)

      pub all_put : (q : Option Pattern) {l4 : List ℕ} {d : ℕ} → PutEntries (option_to_list q) l3 c l4 d → PutEntries (option_to_list o ++ (texts s ++ (option_to_list z ++ option_to_list q))) l 0 l4 d
      all_put q fourth = entries_more first (entries_more second (entries_more third fourth))
