-- A walk from octet to octet finds the longest run.
-- Assumes nothing.
use mathlib.Core.Path.{◌≡◌, refl, sym, ap, ◌∙◌}
use Prim.Native.Nat.{ℕ, ◌+◌, ◌-◌, ◌≤◌, ◌<◌}
use native.Mathlib.Omega.{arith}
use native.Mathlib.Numerals.{add-one}
use mathlib.Core.List.{List, [], ◌∷◌, ◌++◌, reverse}
use lib.ListN.{length, get_or, take, length-append}
use lib.Seq.{length-take-le, take-suc}
use Rattle.runs.specs.Front.{is, equal_at_end}
use Rattle.runs.specs.Longest.{run, last_run, longer, longest_within, longest, Longest, OnlyLongest}
use Rattle.runs.specs.Example.{Example}
use Rattle.runs.specs.declared.Run.{Run}
use Rattle.runs.proofs.Back.{back_le}
use Rattle.runs.proofs.More.{more_last, more_again, more_anew}
use Rattle.runs.proofs.Longest.{longer_first, longer_second, longest_law, only_longest, example}

-- the parts of the run that some octets end with
last_is : (s : List ℕ) {start octet n : ℕ} → n ≡ equal_at_end s → octet ≡ get_or (reverse s) 0 0 → start ≡ length s - n
    → run start octet n ≡ last_run s
unfolding last_run
last_is s {start} {octet} {n} e f g = rw (g, f, e) refl

-- one octet more
module _ (s : List ℕ) (i : ℕ) (h : i < length s) where
  size : length (take i s) ≡ i
  size = length-take-le i s (omega arith)

  grown : take (i + 1) s ≡ take i s ++ (get_or s i 0 ∷ [])
  grown = rw (add-one i) (take-suc s i 0 h)

  grown_size : length (take i s ++ (get_or s i 0 ∷ [])) ≡ i + 1
  grown_size = omega (arith, length-append (take i s) (get_or s i 0 ∷ []), size)

  -- the run that they end with
  module _ {last : Run} (e : last ≡ last_run (take i s)) where
    length_is : last.length ≡ equal_at_end (take i s)
    unfolding last_run
    length_is = ap (λ (r : Run). r.length) e

    octet_is : last.octet ≡ get_or (reverse (take i s)) 0 0
    unfolding last_run
    octet_is = ap (λ (r : Run). r.octet) e

    start_is : last.start ≡ i - last.length
    unfolding last_run
    start_is = omega (arith, ap (λ (r : Run). r.start) e, length_is, size)

    pub length_fits : last.length ≤ i
    length_fits = omega (arith, length_is, size, back_le (is (get_or (reverse (take i s)) 0 0)) (take i s))

    pub last_on : get_or s i 0 ≡ last.octet → run last.start last.octet (last.length + 1) ≡ last_run (take (i + 1) s)
    last_on f =
        rw grown
        (last_is (take i s ++ (get_or s i 0 ∷ []))
        (omega (arith, length_is, more_again (take i s) (get_or s i 0) (sym octet_is ∙ sym f)))
        (sym f ∙ sym (more_last (take i s) (get_or s i 0)))
        (omega (arith, start_is, length_fits, grown_size)))

    pub last_new : (get_or s i 0 ≡ last.octet → ⊥) → run i (get_or s i 0) 1 ≡ last_run (take (i + 1) s)
    last_new f =
        rw grown
        (last_is (take i s ++ (get_or s i 0 ∷ []))
        (sym (more_anew (take i s) (get_or s i 0) (λ l g. f (sym g ∙ sym octet_is))))
        (sym (more_last (take i s) (get_or s i 0)))
        (omega (arith, grown_size)))

  -- and the longest: that one where it is longer
  module _ {best last : Run} (b : best ≡ longest_within i s) (e : last ≡ last_run (take (i + 1) s)) where
    longest_is : longest_within (i + 1) s ≡ longer best last
    unfolding longest_within
    longest_is = rw (b, e, add-one i) refl

    pub longest_new : best.length < last.length → last ≡ longest_within (i + 1) s
    longest_new l = longer_second best last l ∙ sym longest_is

    pub longest_on : last.length ≤ best.length → best ≡ longest_within (i + 1) s
    longest_on l = longer_first best last l ∙ sym longest_is

-- what the contract says of a run
abbrev Found : List ℕ → Run → Type 0
Found s r = (r ≡ longest s) × (Longest s r × (OnlyLongest s r × Example))

-- after the last octet it is the longest run
pub found : (s : List ℕ) {r : Run} → r ≡ longest s → Found s r
found s e = rw e (refl, (longest_law s, (only_longest s, example)))
