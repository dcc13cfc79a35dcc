-- Laws of the distribution: its entries, and counting up in one walk.
-- Assumes nothing.
use mathlib.Core.Path.{◌≡◌, refl, sym, ◌∙◌}
use Prim.Native.Nat.{ℕ, ◌+◌, ◌≤◌, ◌<◌}
use native.Mathlib.Omega.{arith}
use mathlib.Core.Bool.{Bool, true, false}
use mathlib.Core.List.{List}
use lib.ListN.{length, get_or, set, drop, length-set, replicate, get_or-replicate, length-replicate}
use lib.Seq.{ext_get_or, get_or-set_same, get_or-set_other}
use Rattle.std.proofs.lemmas.List.FromFn.{length-map-range_with_len, get_or-map-range_with_len}
use Rattle.runs.specs.Front.{is, count}
use Rattle.runs.proofs.Front.{is_true, is_false}
use Rattle.runs.proofs.Count.{count_le, count_turn, count_end}
use Rattle.statistics.specs.Statistics.{counts_from, byte_distribution}

module _ (s : List ℕ) where
  -- there are 256 entries
  distribution_length : length (byte_distribution s) ≡ 256
  unfolding byte_distribution counts_from
  distribution_length = length-map-range_with_len (λ v. count (is v) s) 0 256

  -- entry v is the count of v
  pub distribution_at : (v : ℕ) → v < 256 → get_or (byte_distribution s) v 0 ≡ count (is v) s
  unfolding byte_distribution counts_from
  distribution_at v h = get_or-map-range_with_len (λ v. count (is v) s) 0 256 v v 0 h (omega arith)

  -- the counts are those of the octets before place i
  pub record Counted (counts : List ℕ) (i : ℕ) : Type 0 where
    pub size : length counts ≡ 256
    pub each : (v : ℕ) → v < 256 → get_or counts v 0 + count (is v) (drop i s) ≡ count (is v) s

  -- before the first octet all are 0
  pub counted_start : Counted (replicate 256 0) 0
  counted_start = record {
    size = length-replicate {A = ℕ} 256 0;
    each = λ v h. omega (arith, get_or-replicate {A = ℕ} 256 v 0 0 h);
  }

  module _ (counts : List ℕ) (i : ℕ) (c : Counted counts i) where
    -- no count exceeds the length
    pub counted_few : (v : ℕ) → v < 256 → get_or counts v 0 ≤ length s
    counted_few v h = omega (arith, c.each v h, count_le (is v) s)

    -- one more octet
    pub counted_turn : (x : ℕ) → i < length s → x ≡ get_or s i 0 → x < 256 → Counted (set counts x (get_or counts x 0 + 1)) (i + 1)
    counted_turn x h e l = record {
      size = length-set counts x (get_or counts x 0 + 1) ∙ c.size;
      each = λ v k. go v k (is v x) refl;
    }
      where
        go : (v : ℕ) → v < 256 → (b : Bool) → is v x ≡ b
            → get_or (set counts x (get_or counts x 0 + 1)) v 0 + count (is v) (drop (i + 1) s) ≡ count (is v) s
        go v k true f =
            let g : v ≡ x = sym (is_true v x f) in
            let turn : count (is v) (drop i s) ≡ 1 + count (is v) (drop (i + 1) s) = count_turn (is v) s i h ∙ rw (← e, f) in
            rw g (omega (arith, get_or-set_same counts x (get_or counts x 0 + 1) 0 (omega (arith, c.size)), c.each x l, rw g at turn))
        go v k false f =
            let turn : count (is v) (drop i s) ≡ count (is v) (drop (i + 1) s) = count_turn (is v) s i h ∙ rw (← e, f) (omega arith) in
            omega (arith, get_or-set_other counts x v (get_or counts x 0 + 1) 0 (λ g. is_false v x f (sym g)), c.each v k)

    -- at the end all are counted
    pub counted_end : length s ≤ i → counts ≡ byte_distribution s
    counted_end h =
        ext_get_or 0 counts (byte_distribution s) (c.size ∙ sym distribution_length)
        (λ v l. let k : v < 256 = omega (arith, c.size) in omega (arith, c.each v k, distribution_at v k, count_end (is v) s i h))
