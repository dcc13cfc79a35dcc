-- One changed octet of an accepted frame: it is accepted just where it is missed.
-- Assumes nothing.
use mathlib.Core.Path.{◌≡◌, refl, sym, ap, ap₂, subst, ◌∙◌}
use mathlib.Core.Logic.{⊎_elim}
use mathlib.Core.Bool.{true, false}
use mathlib.Core.List.{List}
use Prim.Native.Nat.{ℕ, zero, suc, ◌+◌, ◌-◌, ◌*◌, ◌/◌, ◌%◌, ◌^◌, ◌≤◌, ◌<◌}
use native.Mathlib.Nat.{lt_of_lt_of_le}
use native.Mathlib.Omega.{arith}
use borrow.Author.Tests.{le-leb, eq-eqb, eqb-true}
use lib.Bits.{bit_xor, xor_lt}
use lib.Dec.{lit<, lit≤, eqb}
use lib.ListN.{length, get_or, take, drop, length-drop, length-take}
use lib.Pow.{pow_mono}
use lib.Seq.{ext_get_or, get_or-drop, get_or-take}
use Rattle.octets.specs.Change.{DifferAt}
use Rattle.octets.specs.Number.{number}
use Rattle.octets.specs.Range.{within}
use Rattle.octets.proofs.Change.{differ_drop, differ_take}
use Rattle.octets.proofs.Numbers.{high_is, low_is}
use Rattle.octets.proofs.Parts.{Octets, octets_drop}
use Rattle.octets.proofs.Ranges.{within_true}
use Rattle.octets.proofs.Tests.{both_true, both_are}
use Rattle.crc.specs.Burst.{XoredAt, Burst}
use Rattle.crc.specs.Check.{check, ones}
use Rattle.crc.specs.Rule.{header_constant, header_check}
use Rattle.crc.specs.declared.CheckRule.{CheckRule}
use Rattle.crc.specs.declared.CheckRule.TheVariants.{AnnexG, House}
use Rattle.crc.proofs.Burst.{missed_pattern, missed_alike, unnoticed}
use Rattle.crc.proofs.Injective.{xor_zero}
use Rattle.crc.proofs.Word.{octet_xored}
use Rattle.mstp_frame.specs.Fields.{data_length, data_part, data_check_sent}
use Rattle.mstp_frame.specs.Size.{frame_size}
use Rattle.mstp_frame.proofs.Sizes.{size_injective}
use Rattle.mstp_decode.specs.Change.{missed, header_bits, checked_header}
use Rattle.mstp_decode.proofs.Accepted.{Accepted}
use Rattle.mstp_decode.proofs.Change.{header_top, one_more, header_octets_lem, header_alike, data_found}

-- the pattern that a header constant does not find is more than a type has bits, and an octet only under the house rule
large : (rule : CheckRule) → 8 ≤ missed_pattern (header_constant rule)
large AnnexG = lit≤ tt
large House = lit≤ tt

address_missed : (rule : CheckRule) (place p : ℕ) → p < 256 → p ≡ missed_pattern (header_constant rule) → 3 ≤ place → place ≤ 4
    → missed rule place p ≡ true
unfolding missed within
address_missed AnnexG place p h e low high = absurd (omega arith)
address_missed House place p h e low high = both_are _ _ (both_are _ _ (le-leb _ place (omega arith)) (le-leb place _ (omega arith))) (eq-eqb p _ e)

-- an octet of the first n behind the preamble
header_octet : (n i : ℕ) (u : List ℕ) → i < n → get_or (take n (drop 2 u)) i 0 ≡ get_or u (2 + i) 0
header_octet n i u h = get_or-take n (drop 2 u) i 0 h ∙ get_or-drop 2 u i 0

-- what is XORed in where octets differ in one
module _ (s t : List ℕ) (os : Octets s) (ot : Octets t) (place : ℕ) where
  abbrev pattern : ℕ
  pattern = bit_xor (get_or s place 0) (get_or t place 0)

  pattern_octet : pattern < 2 ^ 8
  pattern_octet = xor_lt 8 (get_or s place 0) (get_or t place 0) (os place) (ot place)

  module _ (d : DifferAt place s t) where
    pattern_some : 0 < pattern
    pattern_some = let apart : pattern ≡ 0 → ⊥ = λ e. d.changed (sym (xor_zero (get_or s place 0) (get_or t place 0) e)) in omega arith

    differ_xored : XoredAt pattern (8 * place) s t
    differ_xored = octet_xored place s t d.same_length d.inside os ot d.others

    -- a change of w bits, if an octet has no more
    differ_burst : (w : ℕ) → 8 ≤ w → Burst w s t
    differ_burst w wide = record {
      pattern = pattern;
      bit = 8 * place;
      some = pattern_some;
      narrow = lt_of_lt_of_le pattern_octet (pow_mono wide);
      xored = differ_xored;
    }

module _ (rule : CheckRule) (s t : List ℕ) (os : Octets s) (ot : Octets t) (a : Accepted rule s) where
  -- the parts that hold the change differ there
  differ_behind : (n i place : ℕ) → place ≡ n + i → DifferAt place s t → DifferAt i (drop n s) (drop n t)
  differ_behind n i place e d = differ_drop n i s t (subst (λ (p : ℕ). DifferAt p s t) e d)

  header_xored : (n i place : ℕ) → place ≡ 2 + i → i < n → DifferAt place s t
      → XoredAt (bit_xor (get_or s place 0) (get_or t place 0)) (8 * i) (take n (drop 2 s)) (take n (drop 2 t))
  header_xored n i place e h d =
      subst (λ (p : ℕ). XoredAt p (8 * i) (take n (drop 2 s)) (take n (drop 2 t))) (ap₂ bit_xor (at s) (at t))
      (differ_xored (take n (drop 2 s)) (take n (drop 2 t)) (header_octets_lem n s os) (header_octets_lem n t ot) i
      (differ_take n i (drop 2 s) (drop 2 t) h (differ_behind 2 i place e d)))
    where
      at : (u : List ℕ) → get_or (take n (drop 2 u)) i 0 ≡ get_or u place 0
      at u = header_octet n i u h ∙ ap (λ (p : ℕ). get_or u p 0) (sym e)

  -- both are accepted: the change is one that is missed
  module _ (b : Accepted rule t) where
    -- frames of one size have the same length octets
    same_size : length t ≡ length s → data_length t ≡ data_length s
    same_size e = size_injective (data_length t) (data_length s) (sym b.size ∙ e ∙ a.size)

    high_alike : length t ≡ length s → get_or t 5 0 ≡ get_or s 5 0
    unfolding data_length
    high_alike e =
        sym (high_is (get_or t 5 0) (get_or t 6 0) (ot 6)) ∙ ap (λ (n : ℕ). n / 256) (same_size e) ∙ high_is (get_or s 5 0) (get_or s 6 0) (os 6)

    low_alike : length t ≡ length s → get_or t 6 0 ≡ get_or s 6 0
    unfolding data_length
    low_alike e =
        sym (low_is (get_or t 5 0) (get_or t 6 0) (ot 6)) ∙ ap (λ (n : ℕ). n % 256) (same_size e) ∙ low_is (get_or s 5 0) (get_or s 6 0) (os 6)

    -- a header octet: the register is the same again, so the pattern is the one that it does not find
    in_header : (i place : ℕ) → place ≡ 2 + i → i < 5 → DifferAt place s t
        → bit_xor (get_or s place 0) (get_or t place 0) ≡ missed_pattern (header_constant rule)
    in_header i place e inside d =
        ⊎_elim (λ z. absurd (omega (arith, pattern_some s t os ot place d))) (λ z. z)
        (unnoticed (header_bits rule - 1) (header_constant rule) (header_top rule) (ones 8) (checked_header s) (checked_header t) (header_octets_lem 6 s os)
        (header_octets_lem 6 t ot)
        (header_alike rule s t os ot a b)
        (bit_xor (get_or s place 0) (get_or t place 0)) (8 * i)
        (lt_of_lt_of_le (pattern_octet s t os ot place) (pow_mono (one_more rule)))
        (header_xored 6 i place e (omega arith) d))

    -- the header check alone: it is that of the same five octets
    in_check : DifferAt 7 s t → ⊥
    in_check d = d.changed (sym b.header ∙ ap (λ (l : List ℕ). header_check rule l) same ∙ a.header)
      where
        five : (u : List ℕ) → Accepted rule u → length (take 5 (drop 2 u)) ≡ 5
        five u c = omega (arith, length-take 5 (drop 2 u), length-drop 2 u, c.long)

        at : (j : ℕ) → j < 5 → get_or (take 5 (drop 2 t)) j 0 ≡ get_or (take 5 (drop 2 s)) j 0
        at j h = header_octet 5 j t h ∙ d.others (2 + j) (λ z. omega arith) ∙ sym (header_octet 5 j s h)

        same : take 5 (drop 2 t) ≡ take 5 (drop 2 s)
        same = ext_get_or 0 (take 5 (drop 2 t)) (take 5 (drop 2 s)) (five t b ∙ sym (five s a)) (λ j h. at j (omega (arith, five t b)))

    in_data : (i : ℕ) → DifferAt (8 + i) s t → ⊥
    in_data i d =
        data_found rule s t os ot a b
        (differ_burst (drop 8 s) (drop 8 t) (octets_drop 8 s os) (octets_drop 8 t ot) i (differ_behind 8 i (8 + i) refl d) 16 (lit≤ tt))

    pub accepted_missed : (place : ℕ) → DifferAt place s t → missed rule place (bit_xor (get_or s place 0) (get_or t place 0)) ≡ true
    accepted_missed zero d = absurd (d.changed (b.first ∙ sym a.first))
    accepted_missed (suc zero) d = absurd (d.changed (b.second ∙ sym a.second))
    accepted_missed (suc (suc zero)) d =
        let e = in_header 0 2 refl (lit< tt) d in
        absurd (omega (arith, large rule, xor_lt 3 (get_or s 2 0) (get_or t 2 0) (omega (arith, a.known)) (omega (arith, b.known))))
    accepted_missed (suc (suc (suc zero))) d = address_missed rule 3 _ (pattern_octet s t os ot 3) (in_header 1 3 refl (lit< tt) d) (lit≤ tt) (lit≤ tt)
    accepted_missed (suc (suc (suc (suc zero)))) d = address_missed rule 4 _ (pattern_octet s t os ot 4) (in_header 2 4 refl (lit< tt) d) (lit≤ tt) (lit≤ tt)
    accepted_missed (suc (suc (suc (suc (suc zero))))) d = absurd (d.changed (high_alike d.same_length))
    accepted_missed (suc (suc (suc (suc (suc (suc zero)))))) d = absurd (d.changed (low_alike d.same_length))
    accepted_missed (suc (suc (suc (suc (suc (suc (suc zero))))))) d = absurd (in_check d)
    accepted_missed (suc (suc (suc (suc (suc (suc (suc (suc i)))))))) d =
        absurd (in_data i (subst (λ (p : ℕ). DifferAt p s t) (eight i) d))
      where
        eight : (i : ℕ) → suc (suc (suc (suc (suc (suc (suc (suc i))))))) ≡ 8 + i
        eight i = omega arith

  -- the change is one that is missed: it is accepted
  module _ (place : ℕ) (d : DifferAt place s t) (low : 3 ≤ place) (high : place ≤ 4) where
    other : (i : ℕ) → (i ≡ place → ⊥) → get_or t i 0 ≡ get_or s i 0
    other = d.others

    length_alike : data_length t ≡ data_length s
    unfolding data_length
    length_alike = ap₂ number (other 5 (λ e. omega arith)) (other 6 (λ e. omega arith))

    behind_alike : drop 8 t ≡ drop 8 s
    behind_alike =
        ext_get_or 0 (drop 8 t) (drop 8 s) (omega (arith, length-drop 8 t, length-drop 8 s, d.same_length))
        (λ i _. get_or-drop 8 t i 0 ∙ other (8 + i) (λ e. omega arith) ∙ sym (get_or-drop 8 s i 0))

    part_alike : data_part t ≡ data_part s
    unfolding data_part
    part_alike = ap₂ (λ (n : ℕ) (l : List ℕ). take n l) length_alike behind_alike

    sent_alike : data_check_sent t ≡ data_check_sent s
    unfolding data_check_sent
    sent_alike =
        rw length_alike (ap₂ number (other (data_length s + 9) (λ e. omega arith)) (other (data_length s + 8) (λ e. omega arith)))

    check_alike : bit_xor (get_or s place 0) (get_or t place 0) ≡ missed_pattern (header_constant rule)
        → header_check rule (take 5 (drop 2 t)) ≡ header_check rule (take 5 (drop 2 s))
    unfolding header_check check
    check_alike e =
        ap (λ (r : ℕ). ones 8 - r)
        (missed_alike (header_constant rule) (ones 8) (take 5 (drop 2 s)) (take 5 (drop 2 t)) (header_octets_lem 5 s os) (header_octets_lem 5 t ot)
        (omega (arith, length-take 5 (drop 2 s), length-drop 2 s, a.long))
        (subst (λ (p : ℕ). XoredAt p (8 * (place - 2)) (take 5 (drop 2 s)) (take 5 (drop 2 t))) e
        (header_xored 5 (place - 2) place (omega arith) (omega arith) d)))

    pub missed_accepted : bit_xor (get_or s place 0) (get_or t place 0) ≡ missed_pattern (header_constant rule) → Accepted rule t
    missed_accepted e = record {
      long = rw d.same_length a.long;
      first = other 0 (λ z. omega arith) ∙ a.first;
      second = other 1 (λ z. omega arith) ∙ a.second;
      known = rw (other 2 (λ z. omega arith)) a.known;
      header = check_alike e ∙ a.header ∙ sym (other 7 (λ z. omega arith));
      size = d.same_length ∙ a.size ∙ ap frame_size (sym length_alike);
      body = λ some. rw (part_alike, sent_alike) (a.body (λ z. some (length_alike ∙ z)));
    }

-- what is missed, by place and pattern
pub missed_is : (rule : CheckRule) (place p : ℕ) → missed rule place p ≡ true
    → (3 ≤ place) × ((place ≤ 4) × (p ≡ missed_pattern (header_constant rule)))
unfolding missed
missed_is AnnexG place p e =
    let none : missed AnnexG place p ≡ false = refl in
    let z : ◌≡◌ {A = ℕ} 0 1 = cc in
    absurd (omega arith)
missed_is House place p e =
    let both = both_true (within 3 4 place) (eqb p 0xAB) e in
    let range = within_true 3 4 place both.0 in
    (range.0, (range.1, eqb-true p 0xAB both.1))
