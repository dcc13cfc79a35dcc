-- What the search's answer means, place by place.
-- Assumes nothing.
use mathlib.Core.Path.{◌≡◌, refl, subst}
use mathlib.Core.Bool.{Bool, true, false}
use mathlib.Core.List.{List, []}
use Prim.Native.Nat.{ℕ, zero, suc, ◌+◌, ◌≤◌, ◌<◌}
use native.Mathlib.Decide.{dec_le}
use native.Mathlib.Omega.{arith}
use lib.ListN.{length, take, drop, drop_of_length-le, length-drop}
use lib.Seq.{take-nil}
use Rattle.octets.proofs.Parts.{Octets, octets_drop}
use Rattle.crc.specs.declared.CheckRule.{CheckRule}
use Rattle.findings.specs.Result.{errors_of}
use Rattle.validation_mstp.specs.Tests.{mstp_errors}
use Rattle.run_search.specs.Acceptable.{acceptable, own_count, own_octets}
use Rattle.run_search.specs.Found.{NoneAt, Found}
use Rattle.run_search.specs.Search.{report, search_from}
use Rattle.run_search.proofs.Acceptables.{own_inside, own_size, none_else}
use Rattle.run_search.proofs.Searches.{search_end, search_hit, search_miss}

module _ (rule : CheckRule) (run : List ℕ) where
  -- no octets are a frame
  none_empty : (n : ℕ) → acceptable rule (take n []) ≡ false
  unfolding acceptable mstp_errors errors_of
  none_empty n = rw (take-nil n)

  module _ (octets : Octets run) where
    -- what the answer means at the end
    at_end : (p : ℕ) → length run ≤ p → Found rule run p (search_from rule run p).found
    at_end p h =
        let e = search_end rule run p h in
        rw e (record {
          reported = λ r same. let z : ◌≡◌ {A = ℕ} 0 1 = cc in absurd (omega arith);
          nothing = λ same. record {
            none = λ i l n. rw (drop_of_length-le run {i = i} (omega arith)) (none_empty n);
            tried = rw e (omega arith);
          };
        })

    -- where a frame starts
    at_frame : (p : ℕ) → p < length run → acceptable rule (own_octets (drop p run)) ≡ true → Found rule run p (search_from rule run p).found
    unfolding own_octets
    at_frame p h hit =
        let e = search_hit rule run p h hit in
        rw e (record {
          reported = λ r same. let at : report p (own_count (drop p run)) ≡ r = cc in rw (← at) (record {
            behind = omega arith;
            inside = omega (arith, own_size (drop p run) rule (octets_drop p run octets) hit, own_inside (drop p run), length-drop p run);
            passes = hit;
            first = λ i l m. absurd (omega arith);
            tried = rw e (omega arith);
          });
          nothing = λ same. let z : ◌≡◌ {A = ℕ} 0 1 = cc in absurd (omega arith);
        })

    -- and where none starts, from what it means behind
    at_other : (p : ℕ) → p < length run → acceptable rule (own_octets (drop p run)) ≡ false → Found rule run (suc p) (search_from rule run (suc p)).found
        → Found rule run p (search_from rule run p).found
    at_other p h miss later =
        let e = search_miss rule run p h miss in
        rw e (record {
          reported = λ r same. let l = later.reported r same in record {
            behind = omega (arith, l.behind);
            inside = l.inside;
            passes = l.passes;
            first = λ i from before. none_from i from (λ next. l.first i next before);
            tried = rw e (omega (arith, l.behind, l.tried));
          };
          nothing = λ same. let l = later.nothing same in record {
            none = λ i from. none_from i from (l.none i);
            tried = rw e (omega (arith, l.tried));
          };
        })
      where
        none_from : (i : ℕ) → p ≤ i → (suc p ≤ i → NoneAt rule run i) → NoneAt rule run i
        none_from i from behind = by (dec_le (suc p) i)
          where
            here : NoneAt rule run p
            here = none_else (drop p run) rule (octets_drop p run octets) miss

            by : Dec (suc p ≤ i) → NoneAt rule run i
            by (yes next) = behind next
            by (no this) = let same : p ≡ i = omega arith in subst (NoneAt rule run) same here

    means : (left p : ℕ) → length run ≤ p + left → Found rule run p (search_from rule run p).found
    means zero p h = at_end p (omega arith)
    means (suc left) p h = by (means left (suc p) (omega arith)) (dec_le (length run) p) (acceptable rule (own_octets (drop p run))) refl
      where
        by : Found rule run (suc p) (search_from rule run (suc p)).found → Dec (length run ≤ p)
            → (b : Bool) → acceptable rule (own_octets (drop p run)) ≡ b → Found rule run p (search_from rule run p).found
        by later (yes over) b e = at_end p over
        by later (no inside) true e = at_frame p (omega arith) e
        by later (no inside) false e = at_other p (omega arith) e later

    -- what the search's answer means
    pub search_plain : (place : ℕ) → Found rule run place (search_from rule run place).found
    search_plain place = means (length run) place (omega arith)
