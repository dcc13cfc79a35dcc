-- What the place that `next_frame` gives means: the search finds the frame there, or none.
-- Assumes nothing.
use mathlib.Core.Path.{◌≡◌, refl, sym, ap, subst, ◌∙◌}
use mathlib.Core.List.{List}
use Prim.Native.Nat.{ℕ, ◌≤◌, ◌<◌}
use native.Mathlib.Omega.{arith}
use lib.ListN.{length, drop, length-take, length-drop}
use Rattle.octets.proofs.Parts.{Octets, octets_drop}
use Rattle.crc.specs.declared.CheckRule.{CheckRule}
use Rattle.run_search.specs.declared.Report.{Report}
use Rattle.std.specs.Prelude.{Option, Some, None}
use Rattle.run_search.specs.Search.{report, search_from, size_at, place_or, next_frame}
use Rattle.run_search.proofs.Acceptables.{front_size}
use Rattle.run_search.proofs.Plain.{search_plain}
use Rattle.run_search.proofs.Sizes.{size_own}

-- the search from a place finds the frame at p, or none where p is the end
pub record Next (rule : CheckRule) (run : List ℕ) (place p : ℕ) : Type 0 where
  pub later : place ≤ length run → place ≤ p
  pub frame : p < length run → (search_from rule run place).found ≡ Some (report p (size_at run p))
  pub none : length run ≤ p → (search_from rule run place).found ≡ None

pub next : (rule : CheckRule) (run : List ℕ) → Octets run → (place : ℕ) {p : ℕ} → p ≡ next_frame rule run place → Next rule run place p
unfolding next_frame
next rule run octets place e = subst (Next rule run place) (sym e) (by (search_from rule run place).found refl)
  where
    by : (answer : Option Report) → (search_from rule run place).found ≡ answer → Next rule run place (place_or (length run) answer)
    by (Some r) e =
        let m = (search_plain rule run octets place).reported r e in
        let s = drop r.place run in
        let front = front_size s rule (octets_drop r.place run octets) r.count m.passes in
        let counted = length-take r.count s in
        let left = length-drop r.place run in
        let size : r.count ≡ size_at run r.place = omega (arith, m.inside, front.0, front.1, size_own run r.place (omega (arith, front.0))) in
        record {
          later = λ _. m.behind;
          frame = λ _. e ∙ ap (λ (n : ℕ). Some (report r.place n)) size;
          none = λ over. absurd (omega (arith, m.inside, front.0));
        }
    by None e = record {
      later = λ before. before;
      frame = λ inside. absurd (omega arith);
      none = λ _. e;
    }
