-- The search place by place: it goes on where no frame starts, and ends at the first that does.
-- Assumes nothing.
use mathlib.Core.Path.{◌≡◌, refl, ap}
use mathlib.Core.Bool.{true, false}
use mathlib.Core.List.{List, [], ◌∷◌}
use Prim.Native.Nat.{ℕ, suc, ◌≤◌, ◌<◌}
use native.Mathlib.Numerals.{add-one}
use native.Mathlib.Omega.{arith}
use lib.ListN.{length, drop, drop_of_length-le, length-drop}
use lib.Seq.{drop-drop}
use Rattle.crc.specs.declared.CheckRule.{CheckRule}
use Rattle.std.specs.Prelude.{Some, None}
use Rattle.run_search.specs.Acceptable.{acceptable, own_count, own_octets}
use Rattle.run_search.specs.Search.{report, one_more, search, search_from}

-- the octets behind the first of those from a place on
pub drop_tail : (run : List ℕ) (p x : ℕ) (s : List ℕ) → drop p run ≡ x ∷ s → drop (suc p) run ≡ s
drop_tail run p x s e = rw (← (add-one p), ← (drop-drop 1 p run), e)

module _ (rule : CheckRule) (run : List ℕ) where
  -- the search at the end, where a frame starts, and where none does

  pub search_end : (p : ℕ) → length run ≤ p → search_from rule run p ≡ record { found = None; tried = 0 }
  unfolding search
  search_end p h = rw (drop_of_length-le run {i = p} h)

  pub search_hit : (p : ℕ) → p < length run → acceptable rule (own_octets (drop p run)) ≡ true
      → search_from rule run p ≡ record { found = Some (report p (own_count (drop p run))); tried = 1 }
  unfolding search
  search_hit p h hit = by (drop p run) refl
    where
      by : (s : List ℕ) → drop p run ≡ s → search rule p (drop p run) ≡ record { found = Some (report p (own_count (drop p run))); tried = 1 }
      by [] e = absurd (omega (arith, ap length e, length-drop p run))
      by (x ∷ s) e =
          let some : acceptable rule (own_octets (x ∷ s)) ≡ true = rw e at hit in
          rw (e, some)

  pub search_miss : (p : ℕ) → p < length run → acceptable rule (own_octets (drop p run)) ≡ false
      → search_from rule run p ≡ one_more (search_from rule run (suc p))
  unfolding search
  search_miss p h miss = by (drop p run) refl
    where
      by : (s : List ℕ) → drop p run ≡ s → search rule p (drop p run) ≡ one_more (search rule (suc p) (drop (suc p) run))
      by [] e = absurd (omega (arith, ap length e, length-drop p run))
      by (x ∷ s) e =
          let none : acceptable rule (own_octets (x ∷ s)) ≡ false = rw e at miss in
          rw (drop_tail run p x s e, e, none)
