-- What is accepted after a change of an accepted frame: the header's and the data's register are the same again, so the change
-- is one that the register does not find.
-- Assumes nothing.
use mathlib.Core.Path.{◌≡◌, refl, sym, ap, subst, ◌∙◌}
use mathlib.Core.List.{List, [], ◌∷◌, ◌++◌}
use Prim.Native.Nat.{ℕ, zero, suc, ◌-◌, ◌^◌, ◌≤◌, ◌<◌}
use native.Mathlib.Omega.{arith}
use lib.Dec.{lit<, lit≤}
use lib.ListN.{get_or, take, drop}
use Rattle.octets.specs.Number.{low_first}
use Rattle.octets.proofs.Numbers.{number_of}
use Rattle.octets.proofs.Parts.{Octets, octets_drop, octets_take, octets_front, octets_behind, part_is}
use Rattle.crc.specs.Burst.{word, Burst}
use Rattle.crc.specs.Check.{register, ones, TopBitSet}
use Rattle.crc.specs.Rule.{header_constant, data_constant, header_check, data_check}
use Rattle.crc.specs.declared.CheckRule.{CheckRule}
use Rattle.crc.specs.declared.CheckRule.TheVariants.{AnnexG, House}
use Rattle.crc.proofs.Burst.{noticed, checked_alike}
use Rattle.mstp_frame.specs.Fields.{data_part}
use Rattle.mstp_decode.specs.Change.{header_bits, data_bits, checked_header, checked_data}
use Rattle.mstp_decode.specs.Frame.{data_octets}
use Rattle.mstp_decode.proofs.Accepted.{Accepted}
use Rattle.mstp_decode.proofs.WritesBack.{rest_is}

-- the header constants have as many bits as are found, and their top bit set; so have the data constants
pub header_top : (rule : CheckRule) → TopBitSet (header_bits rule - 1) (header_constant rule)
header_top AnnexG = (lit≤ tt, lit< tt)
header_top House = (lit≤ tt, lit< tt)

data_top : (rule : CheckRule) → TopBitSet (data_bits - 1) (data_constant rule)
data_top AnnexG = (lit≤ tt, lit< tt)
data_top House = (lit≤ tt, lit< tt)

bits_are : (rule : CheckRule) → header_bits rule ≡ suc (header_bits rule - 1)
bits_are AnnexG = refl
bits_are House = refl

-- an octet has at most one more
pub one_more : (rule : CheckRule) → 8 ≤ suc (suc (header_bits rule - 1))
one_more AnnexG = lit≤ tt
one_more House = lit≤ tt

header_low : (rule : CheckRule) → header_constant rule < 2 ^ 8
header_low AnnexG = lit< tt
header_low House = lit< tt

-- a check as octets is the check
word_one : (c : ℕ) → word (c ∷ []) ≡ c
unfolding word
word_one c = omega arith

word_two : (c : ℕ) → word (low_first c) ≡ c
unfolding word
word_two c = omega (arith, number_of c)

-- octets behind the preamble
pub header_octets_lem : (n : ℕ) (u : List ℕ) → Octets u → Octets (take n (drop 2 u))
header_octets_lem n u ou = octets_take n (drop 2 u) (octets_drop 2 u ou)

-- the header octets and their check, as accepted
module _ (rule : CheckRule) (s : List ℕ) (a : Accepted rule s) where
  header_is : checked_header s ≡ take 5 (drop 2 s) ++ header_check rule (take 5 (drop 2 s)) ∷ []
  header_is =
      part_is 2 6 s a.long
      ∙ ap (λ (l : List ℕ). l ++ get_or s 7 0 ∷ []) (sym (part_is 2 5 s (omega (arith, a.long))))
      ∙ ap (λ (c : ℕ). take 5 (drop 2 s) ++ c ∷ []) (sym a.header)

module _ (rule : CheckRule) (s t : List ℕ) (os : Octets s) (ot : Octets t) (a : Accepted rule s) (b : Accepted rule t) where
  one_octet : (c : ℕ) → c < 256 → Octets (c ∷ [])
  one_octet c h zero = h
  one_octet c h (suc i) = lit< tt

  pub header_alike : register (header_constant rule) (ones 8) (checked_header s) ≡ register (header_constant rule) (ones 8) (checked_header t)
  unfolding header_check
  header_alike =
      rw (header_is rule s a, header_is rule t b)
      (checked_alike 8 (header_constant rule) (take 5 (drop 2 s)) (take 5 (drop 2 t)) (header_check rule (take 5 (drop 2 s)) ∷ [])
      (header_check rule (take 5 (drop 2 t)) ∷ []) (lit≤ tt) (header_low rule) (header_octets_lem 5 s os) (header_octets_lem 5 t ot)
      (one_octet (header_check rule (take 5 (drop 2 s))) (rw a.header (os 7)))
      (one_octet (header_check rule (take 5 (drop 2 t))) (rw b.header (ot 7)))
      refl
      (word_one (header_check rule (take 5 (drop 2 s))))
      (word_one (header_check rule (take 5 (drop 2 t)))))

  pub header_found : Burst (header_bits rule) (checked_header s) (checked_header t) → ⊥
  header_found burst =
      noticed (header_bits rule - 1) (header_constant rule) (header_top rule) (ones 8) (checked_header s) (checked_header t) (header_octets_lem 6 s os) (header_octets_lem 6 t ot) header_alike
      (subst (λ (w : ℕ). Burst w (checked_header s) (checked_header t)) (bits_are rule) burst)

  pub data_found : Burst data_bits (checked_data s) (checked_data t) → ⊥
  unfolding data_check
  data_found burst =
      by (data_part s) (data_part t) (subst Octets (rest_is rule s os a) (octets_drop 8 s os)) (subst Octets (rest_is rule t ot b) (octets_drop 8 t ot))
      (rw (rest_is rule s os a, rest_is rule t ot b) at burst)
    where
      by : (x y : List ℕ) → Octets (data_octets rule x) → Octets (data_octets rule y) → Burst data_bits (data_octets rule x) (data_octets rule y) → ⊥
      by [] [] hx hy burst = noticed 15 (data_constant rule) (data_top rule) 0 [] [] hx hy refl burst
      by [] (d ∷ y) hx hy burst = omega (arith, burst.xored.same_length)
      by (c ∷ x) [] hx hy burst = omega (arith, burst.xored.same_length)
      by (c ∷ x) (d ∷ y) hx hy burst =
          noticed 15 (data_constant rule) (data_top rule) (ones 16) (data_octets rule (c ∷ x)) (data_octets rule (d ∷ y)) hx hy
          (checked_alike 16 (data_constant rule) (c ∷ x) (d ∷ y) (low_first (data_check rule (c ∷ x))) (low_first (data_check rule (d ∷ y)))
          (lit≤ tt) (data_top rule).1
          (octets_front (c ∷ x) (low_first (data_check rule (c ∷ x))) hx) (octets_front (d ∷ y) (low_first (data_check rule (d ∷ y))) hy)
          (octets_behind (c ∷ x) (low_first (data_check rule (c ∷ x))) hx) (octets_behind (d ∷ y) (low_first (data_check rule (d ∷ y))) hy)
          refl
          (word_two (data_check rule (c ∷ x)))
          (word_two (data_check rule (d ∷ y))))
          burst
