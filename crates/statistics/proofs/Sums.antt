-- Sums of counts: the counts of some values in a row are the count of the octets between the first and the last.
-- Assumes nothing.
use mathlib.Core.Path.{◌≡◌, refl, sym, ap, ◌∙◌}
use Prim.Native.Nat.{ℕ, zero, suc, ◌+◌, ◌≤◌}
use native.Mathlib.Omega.{arith}
use mathlib.Core.Bool.{Bool, true, false, cond, ◌&&◌, and-true}
use mathlib.Core.List.{List}
use lib.Dec.{leb}
use lib.ListN.{length, get_or, take, drop}
use borrow.Author.Tests.{le-leb, lt-leb, leb-true, leb-false}
use Rattle.octets.specs.Range.{within}
use Rattle.octets.proofs.Parts.{Octets}
use Rattle.runs.specs.Front.{is, count}
use Rattle.runs.proofs.Front.{is_true, is_false, is_ne, within_same}
use Rattle.runs.proofs.Count.{count_le, count_all, count_alike, count_join}
use Rattle.statistics.specs.Statistics.{counts_from, byte_distribution, high_bytes}
use Rattle.std.specs.List.{sum}
use Rattle.std.proofs.lemmas.List.Sums.{sum_by-cons}

-- a to b is a, or what is above a up to b
first_or_above : (a b y : ℕ) → a ≤ b → cond (is a y) 1 0 + cond (within (a + 1) b y) 1 0 ≡ cond (within a b y) 1 0
unfolding within
first_or_above a b y h = go (leb (a + 1) y) refl
  where
    Join : Type 0
    Join = cond (is a y) 1 0 + cond (leb (a + 1) y && leb y b) 1 0 ≡ cond (leb a y && leb y b) 1 0

    at : (t : Bool) → is a y ≡ t → leb (a + 1) y ≡ false → Join
    at true f e = let g = is_true a y f in rw (f, e, le-leb a y (omega arith), le-leb y b (omega arith))
    at false f e = let g = is_false a y f in rw (f, e, lt-leb a y (omega (arith, leb-false (a + 1) y e)))

    go : (t : Bool) → leb (a + 1) y ≡ t → Join
    go true e = let k = leb-true (a + 1) y e in rw (is_ne a y (λ z. omega arith), e, le-leb a y (omega arith)) (omega arith)
    go false e = at (is a y) refl e

-- the counts of n + 1 values from a on add up to the count of octets from a to a + n
pub counts_total : (s : List ℕ) (a n b : ℕ) → a + n ≡ b → sum (counts_from a (suc n) s) ≡ count (within a b) s
unfolding counts_from
counts_total s a zero b e =
    let same : b ≡ a = omega arith in
    rw same (omega (arith, count_alike (is a) (within a a) s (λ i h. sym (within_same a (get_or s i 0)))))
counts_total s a (suc n) b e =
    let join = count_join (is a) (within (a + 1) b) (within a b) (λ y. first_or_above a b y (omega arith)) s in
    omega (arith, sum_by-cons (λ x. x) (count (is a) s) (counts_from (a + 1) (suc n) s), counts_total s (a + 1) n b (omega arith))

module _ (s : List ℕ) (octets : Octets s) where
  -- an octet is low to FF where it is low or more
  up_to_ff : (low i : ℕ) → within low 0xFF (get_or s i 0) ≡ leb low (get_or s i 0)
  unfolding within
  up_to_ff low i = rw (le-leb (get_or s i 0) 0xFF (omega (arith, octets i))) (and-true (leb low (get_or s i 0)))

  -- all counts
  pub all_total : sum (byte_distribution s) ≡ length s
  unfolding byte_distribution
  all_total = counts_total s 0 255 255 refl ∙ count_all (within 0 255) s (λ i h. up_to_ff 0 i ∙ le-leb 0 (get_or s i 0) (omega arith))

  -- those of 80 and more
  pub high_total : sum (drop 0x80 (byte_distribution s)) ≡ high_bytes s
  unfolding byte_distribution counts_from high_bytes
  high_total = counts_total s 0x80 127 0xFF refl ∙ count_alike (within 0x80 0xFF) (leb 0x80) s (λ i h. up_to_ff 0x80 i)

  -- the same of the part that the code sums
  pub high_part : {counts : List ℕ} → counts ≡ byte_distribution s → sum (take 128 (drop 0x80 counts)) ≡ high_bytes s
  unfolding byte_distribution counts_from
  high_part e = ap (λ (l : List ℕ). sum (take 128 (drop 0x80 l))) e ∙ high_total

  -- it is no more than the length
  pub high_few : {counts : List ℕ} → counts ≡ byte_distribution s → sum (take 128 (drop 0x80 counts)) ≤ length s
  unfolding high_bytes
  high_few e = omega (arith, high_part e, count_le (leb 0x80) s)
