-- Eight bits through a table: through that of a constant k they are the register's.
-- Assumes nothing.
use mathlib.Core.Path.{◌≡◌, refl, sym, ap, ◌∙◌}
use mathlib.Core.List.{List, [], ◌∷◌}
use Prim.Native.Nat.{ℕ, suc, ◌-◌, ◌/◌, ◌%◌, ◌^◌, ◌<◌}
use native.Mathlib.Omega.{arith}
use native.Mathlib.Nat.{mod-eq_of_lt}
use lib.Bits.{bit_xor, xor_lt, xor_zero_r}
use lib.Dec.{lit<}
use lib.ListN.{length, get_or, drop, drop_of_length-le}
use lib.Seq.{drop-cons}
use Rattle.crc_tables.specs.Table.{table_of}
use Rattle.std.specs.List.{fold}
use Rattle.crc.specs.Check.{octet_step, register}
use Rattle.crc.specs.Through.{octet_through, through, check_through}
use Rattle.crc.proofs.Table.{low_law}
use Rattle.crc.proofs.Width.{AllBelow}

-- a list of five, one by one
pub five : (s : List ℕ) → length s ≡ 5 → get_or s 0 0 ∷ get_or s 1 0 ∷ get_or s 2 0 ∷ get_or s 3 0 ∷ get_or s 4 0 ∷ [] ≡ s
five s h =
    let at : (i : ℕ) → i < 5 → drop i s ≡ get_or s i 0 ∷ drop (suc i) s = λ i less. drop-cons s i 0 (omega arith) in
    sym
    (at 0 (omega arith)
    ∙ ap (λ (l : List ℕ). get_or s 0 0 ∷ l)
    (at 1 (omega arith)
    ∙ ap (λ (l : List ℕ). get_or s 1 0 ∷ l)
    (at 2 (omega arith)
    ∙ ap (λ (l : List ℕ). get_or s 2 0 ∷ l)
    (at 3 (omega arith)
    ∙ ap (λ (l : List ℕ). get_or s 3 0 ∷ l)
    (at 4 (omega arith) ∙ ap (λ (l : List ℕ). get_or s 4 0 ∷ l) (drop_of_length-le s {i = 5} (omega arith)))))))

-- through the table of a constant k it is the register of k
module _ (k : ℕ) {t : List ℕ} (e : t ≡ table_of k) where
  pub through_register : (x : ℕ) (s : List ℕ) → fold (octet_through t) x s ≡ register k x s
  unfolding octet_through register octet_step
  through_register x [] = refl
  through_register x (b ∷ s) =
      ap (λ (y : ℕ). fold (octet_through t) y s) (low_law k (bit_xor x b) e) ∙ through_register (octet_step k x b) s

-- through a table of octets it stays one
module _ (t : List ℕ) (ht : AllBelow (2 ^ 8) t) where
  pub eight_through : (x : ℕ) (s : List ℕ) → x < 2 ^ 8 → AllBelow (2 ^ 8) s → (fold (octet_through t) x s ≡ through t x s) × (through t x s < 2 ^ 8)
  unfolding octet_through through
  eight_through x [] hx hs = (refl, hx)
  eight_through x (b ∷ s) hx hs =
      let z = bit_xor x b in
      let below : z < 2 ^ 8 = xor_lt 8 x b hx (hs 0) in
      let low : z % 256 ≡ z = mod-eq_of_lt below in
      let high : z / 256 ≡ 0 = omega (arith, below) in
      let step : bit_xor (get_or t (z % 256) 0) (z / 256) ≡ get_or t z 0 = rw (low, high) (xor_zero_r (get_or t z 0)) in
      let more = eight_through (get_or t z 0) s (ht z) (λ i. hs (suc i)) in
      (ap (λ (y : ℕ). fold (octet_through t) y s) step ∙ more.0, more.1)

  -- and its complement is the check
  pub eight_checked : (s : List ℕ) {r : ℕ} → AllBelow (2 ^ 8) s → r ≡ fold (octet_through t) 0xFF s → (r < 2 ^ 8) × (0xFF - r ≡ check_through t s)
  unfolding check_through
  eight_checked s hs e =
      let eight = eight_through 0xFF s (lit< tt) hs in
      rw (e, eight.0) (eight.1, refl)
