-- The turns of the finder's loops: where no frame starts at an octet the search goes on behind it, and else it ends there.
-- Assumes nothing.
use mathlib.Core.Path.{◌≡◌, refl, sym, subst, ap, ◌∙◌}
use mathlib.Core.Bool.{Bool, true, false, not, cond}
use borrow.Author.Tests.{eqb-false, ltb-false}
use mathlib.Core.List.{List}
use Prim.Native.Nat.{ℕ, zero, suc, ◌+◌, ◌-◌, ◌≤◌, ◌<◌}
use native.Mathlib.Nat.{add-zero}
use native.Mathlib.Numerals.{add-one}
use native.Mathlib.Omega.{arith}
use lib.ListN.{length, get_or, take, drop, length-drop}
use lib.Seq.{get_or-drop, take_all}
use Rattle.octets.proofs.Parts.{Octets, octets_drop}
use Rattle.crc.specs.declared.CheckRule.{CheckRule}
use Rattle.mstp_frame.specs.Size.{frame_size}
use Rattle.std.specs.Prelude.{Option, Some, None, ◌==◌, nat_lt, position}
use Rattle.std.specs.List.{position_or_len}
use Rattle.std.specs.Option.{unwrap_or}
use Rattle.std.proofs.lemmas.List.Sums.{fails_before_first, prefix_len-le-length}
use Rattle.run_search.specs.Acceptable.{acceptable, own_count, own_octets}
use Rattle.run_search.specs.Search.{report, search_from, size_at}
use Rattle.run_search.specs.Steps.{NoneBefore}
use Rattle.run_search.proofs.Acceptables.{Facts, unacceptable, own_inside, own_length, own_header, own_octets_lem}
use Rattle.run_search.proofs.Searches.{search_hit, search_miss}
use Rattle.run_search.proofs.Sizes.{size_own, size_8}

-- an octet 55
abbrev is_55 : ℕ → Bool
is_55 octet = octet == 0x55

-- the place of the first, or else the end
place_or_end : (s : List ℕ) {n end : ℕ} → length s ≡ end → n ≡ unwrap_or (position is_55 s) end → n ≡ position_or_len is_55 s
place_or_end s {n} {end} e is = is ∙ by (nat_lt (position_or_len is_55 s) (length s)) refl
  where
    by : (b : Bool) → nat_lt (position_or_len is_55 s) (length s) ≡ b → unwrap_or (cond b (Some (position_or_len is_55 s)) None) end ≡ position_or_len is_55 s
    by true f = refl
    by false f = omega (arith, prefix_len-le-length (λ x. not (is_55 x)) s, ltb-false (position_or_len is_55 s) (length s) f)

module _ (run : List ℕ) (octets : Octets run) where
  module _ {p : ℕ} (inside : p < length run) (rule : CheckRule) where
    -- the octets that a frame at p would have
    abbrev own : List ℕ
    own = own_octets (drop p run)

    ruled_out : (Facts rule own → ⊥) → acceptable rule own ≡ false
    ruled_out not_so = sym (unacceptable rule own (own_octets_lem (drop p run) rule (octets_drop p run octets)) not_so)

    -- where they are not acceptable, what is found from p on is found from behind it on
    on : acceptable rule own ≡ false → (search_from rule run p).found ≡ (search_from rule run (p + 1)).found
    on none = rw (search_miss rule run p inside none, add-one p)

  -- at an octet other than 55
  pub none_next : {from p : ℕ} → NoneBefore run from p → p < length run → (get_or run p 0 ≡ 0x55 → ⊥) → NoneBefore run from (p + 1)
  none_next {from} {p} before inside other = record {
    later = omega (arith, before.later);
    same = λ rule. before.same rule ∙ on inside rule (ruled_out inside rule
        (λ f. other (sym here ∙ sym (own_header (drop p run) 0 (omega arith)) ∙ f.read.first)));
  }
    where
      here : get_or (drop p run) 0 0 ≡ get_or run p 0
      here = rw (get_or-drop p run 0 0, add-zero p)

  -- over the octets before the next 55
  module _ {from : ℕ} where
    steps : (n : ℕ) → n ≤ position_or_len is_55 (drop from run) → from + n ≤ length run → NoneBefore run from (from + n)
    steps zero before inside = record { later = omega arith; same = λ rule. rw add-zero refl }
    steps (suc n) before inside =
        let on : from + n + 1 ≡ from + suc n = omega arith in
        subst (NoneBefore run from) on (none_next (steps n (omega arith) (omega arith)) (omega arith) other)
      where
        other : get_or run (from + n) 0 ≡ 0x55 → ⊥
        other e = omega (arith, eqb-false _ 0x55 (fails_before_first is_55 (drop from run) n 0 (omega arith)) (get_or-drop from run n 0 ∙ e))

    pub none_before_55 : {o found : Option ℕ} {part : List ℕ} → o ≡ position is_55 part → part ≡ take (length run - from) (drop from run)
        → from ≤ length run → o ≡ found
        → let n = unwrap_or found (length run - from) in
        NoneBefore run from (from + n)
    none_before_55 {found = found} {part = part} placed is inside e =
        let left = length-drop from run in
        let n = unwrap_or found (length run - from) in
        let whole : part ≡ drop from run = is ∙ take_all (length run - from) (drop from run) (omega (arith, left)) in
        let before : n ≡ position_or_len is_55 (drop from run) = place_or_end (drop from run) left (rw (← whole, ← placed, e) refl) in
        steps n (omega arith) (omega (arith, prefix_len-le-length (λ x. not (is_55 x)) (drop from run), left))

  -- at a header that says so many octets
  module _ (rule : CheckRule) {p size : ℕ} (inside : p < length run) (sized : size ≡ size_at run p) where
    pub runs_off : {next : ℕ} → length run - p < size → NoneBefore run (p + 1) next → (search_from rule run p).found ≡ (search_from rule run next).found
    runs_off few before =
        on inside rule
        (ruled_out inside rule (λ f.
        let left = length-drop p run in
        let whole = own_inside (drop p run) in
        omega (arith, f.read.size, ap frame_size (own_length (drop p run)), sized, size_own run p (omega (arith, f.read.long)))))
        ∙ before.same rule

    -- if they are there, they are the frame's
    module _ (there : size ≤ length run - p) where
      size_is : size ≡ own_count (drop p run)
      size_is = sized ∙ size_own run p (omega (arith, length-drop p run, sized, size_8 run p))

      part_own : take (p + size - p) (drop p run) ≡ own_octets (drop p run)
      unfolding own_octets
      part_own = let all : p + size - p ≡ size = omega arith in ap (λ (k : ℕ). take k (drop p run)) (all ∙ size_is)

      pub broken : {next : ℕ} → acceptable rule (take (p + size - p) (drop p run)) ≡ false → NoneBefore run (p + 1) next
          → (search_from rule run p).found ≡ (search_from rule run next).found
      broken e before = on inside rule (rw (← part_own) e) ∙ before.same rule

      pub hit : acceptable rule (take (p + size - p) (drop p run)) ≡ true → (search_from rule run p).found ≡ Some (report p size)
      hit e =
          rw (search_hit rule run p inside (rw (← part_own) e), ← size_is)
