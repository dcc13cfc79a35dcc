-- What one changed octet can do to the statistics, and that it does.
-- Assumes nothing.
use mathlib.Core.Path.{◌≡◌, refl, sym, ◌∙◌}
use Prim.Native.Nat.{ℕ, suc, ◌+◌, ◌*◌, ◌-◌, ◌≤◌, ◌<◌}
use native.Mathlib.Omega.{arith, by_contra}
use native.Mathlib.Decide.{dec_le}
use mathlib.Core.Bool.{Bool, true, false}
use mathlib.Core.List.{List, [], ◌∷◌, ◌++◌}
use lib.ListN.{length, get_or, set, replicate, length-append, length-replicate, get_or-replicate, replicate-append-replicate, get_or-append}
use lib.Seq.{set_at, get_or_at, get_or-append-add}
use Rattle.std.specs.Prelude.{Ok}
use Rattle.octets.specs.Size.{at_most_65535}
use Rattle.octets.specs.Change.{DifferAt}
use Rattle.octets.proofs.Change.{every_change, differ_back}
use Rattle.octets.proofs.Refusals.{passes, ends}
use Rattle.runs.specs.Front.{is, count}
use Rattle.runs.specs.Longest.{longest, OneValue}
use Rattle.runs.proofs.Back.{same}
use Rattle.runs.proofs.Count.{count_between}
use Rattle.runs.proofs.Change.{count_change, run_change}
use Rattle.runs.proofs.Longest.{longest_law}
use Rattle.statistics.specs.Statistics.{null_bytes, high_bytes, frame_statistics, statistics_question, statistics}
use Rattle.statistics.specs.Change.{Near, OneChanged, parted, Farthest, Reached}

-- the statistics of octets that question 31 takes
pub taken : (s : List ℕ) → at_most_65535 (length s) ≡ true → Ok (frame_statistics s) ≡ statistics s
unfolding statistics statistics_question
taken s h = passes (frame_statistics s) 31 [] h (ends (frame_statistics s))

-- zeros and high octets fall by at most 1
module _ (s t : List ℕ) (place : ℕ) (d : DifferAt place s t) where
  null_change : null_bytes s ≤ null_bytes t + 1
  unfolding null_bytes
  null_change = count_change _ s t place d

  high_change : high_bytes s ≤ high_bytes t + 1
  unfolding high_bytes
  high_change = count_change _ s t place d

-- statistics of octets that differ in one are near
near : (s t : List ℕ) (place : ℕ) → DifferAt place s t → Near (frame_statistics s) (frame_statistics t)
unfolding frame_statistics
near s t place d =
    let back = differ_back d in
    record {
      null = (omega (arith, null_change s t place d), omega (arith, null_change t s place back));
      high = (omega (arith, high_change s t place d), omega (arith, high_change t s place back));
      longest = (omega (arith, run_change t s place back), omega (arith, run_change s t place d));
    }

-- question 31 takes them too, since they are as many
pub one_changed : (s : List ℕ) → at_most_65535 (length s) ≡ true → OneChanged s (frame_statistics s)
one_changed s h other (place, d) =
    (frame_statistics other, (sym (taken other (rw d.same_length h)), near s other place d))

-- the longest run of n octets x
repeated : (n x : ℕ) → (longest (replicate n x)).length ≡ n
repeated n x =
    let s = replicate n x in
    let r = longest_law s in
    let size = length-replicate n x in
    let all = r.most 0 n (omega arith, λ k h. get_or-replicate n (0 + k) x 0 (omega arith) ∙ sym (get_or-replicate n 0 x 0 (omega arith))) in
    omega (arith, r.same.0)

-- n octets FF, another, and n more
module _ (n : ℕ) where
  abbrev ff : List ℕ
  ff = replicate n 0xFF

  many : length ff ≡ n
  many = length-replicate {A = ℕ} n 0xFF

  -- with 00 in the middle: the length, and the octets before, in and behind the middle
  size : length (parted n) ≡ 2 * n + 1
  size = omega (arith, length-append ff (0x00 ∷ ff), many)

  before : (i : ℕ) → i < n → get_or (parted n) i 0 ≡ 0xFF
  before i h = get_or-append ff (0x00 ∷ ff) 0 i (omega (arith, many)) ∙ get_or-replicate n i 0xFF 0 h

  middle : get_or (parted n) n 0 ≡ 0x00
  middle = get_or_at ff 0x00 ff 0 n many

  behind : 0 < n → get_or (parted n) (n + 1) 0 ≡ 0xFF
  behind some =
      same (parted n) (n + 1) (length ff + 1) (omega (arith, many)) ∙ get_or-append-add ff (0x00 ∷ ff) 1 0 ∙ get_or-replicate n 0 0xFF 0 some

  -- more than n of them hold the middle one and a neighbour
  at_most : 0 < n → (i m : ℕ) → OneValue (parted n) i m → m ≤ n
  at_most some i m v = by_contra m n (λ more. by more (dec_le n i))
    where
      by : n < m → Dec (n ≤ i) → ⊥
      by more (yes late) =
          let here : i ≡ n = omega (arith, v.0, size) in
          let next : get_or (parted n) (n + 1) 0 ≡ get_or (parted n) n 0 = rw here at (v.1 1 (omega arith)) in
          omega (arith, behind some, middle)
      by more (no early) =
          let held : get_or (parted n) n 0 ≡ get_or (parted n) i 0 =
          same (parted n) n (i + (n - i)) (omega arith) ∙ v.1 (n - i) (omega (arith, v.0, size)) in
          omega (arith, before i (omega arith), middle)

  -- one more passes the test where the middle one does
  one_more : (p : ℕ → Bool) (x y : ℕ) → p x ≡ true → p y ≡ false → count p (ff ++ x ∷ ff) ≡ count p (ff ++ y ∷ ff) + 1
  one_more p x y e f = rw (count_between p ff ff x, count_between p ff ff y, e, f) (omega arith)

  -- the statistics differ as far as they can
  farthest : 0 < n → Farthest n
  unfolding null_bytes high_bytes is
  farthest some =
      let r = longest_law (parted n) in
      record {
        differ = rw (set_at ff 0x00 ff 0xFF n many) at
            (every_change (parted n) n 0xFF (omega (arith, size)) (λ e. omega (arith, middle)));
        null = one_more _ 0x00 0xFF refl refl;
        high = one_more _ 0xFF 0x00 refl refl;
        shorter = omega (
          arith,
          at_most some _ _ r.same,
          r.most 0 n (omega (arith, size), λ k h. before (0 + k) (omega arith) ∙ sym (before 0 some)),
        );
        longer = rw (replicate-append-replicate {A = ℕ} n (suc n) 0xFF) (omega (arith, repeated (n + suc n) 0xFF));
      }

pub reached : Reached
reached = record {
  farthest = farthest;
  anywhere = λ s t place octet changed inside other. changed (set s place octet) (place, every_change s place octet inside other);
}
