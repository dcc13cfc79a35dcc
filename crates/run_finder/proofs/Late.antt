-- A false report starts before the frames and has at most 511 octets; from the frames on, 55 FF is a head, so the rest are the frames.
-- Assumes nothing.
use mathlib.Core.Path.{◌≡◌, refl, ap, ◌∙◌}
use mathlib.Core.Bool.{Bool, true, false, cond}
use mathlib.Core.List.{List, [], ◌∷◌, ◌++◌, flatten}
use Prim.Native.Nat.{ℕ, zero, suc, ◌+◌, ◌-◌, ◌≤◌, ◌<◌}
use native.Mathlib.Nat.{add-zero, add-suc, suc-add, zero-sub, sub-zero, suc-sub-suc}
use native.Mathlib.Omega.{arith}
use borrow.Author.Tests.{eq-eqb, lt-leb}
use lib.Dec.{leb}
use lib.ListN.{length, get_or}
use Rattle.octets.proofs.Parts.{Octets, octets_behind}
use Rattle.crc.specs.declared.CheckRule.{CheckRule}
use Rattle.run_search.specs.declared.Report.{Report}
use Rattle.run_search.specs.Acceptable.{acceptable, own_count, own_octets}
use Rattle.run_search.specs.Search.{report}
use Rattle.mstp_frame.specs.Fields.{begins_preamble}
use Rattle.run_finder.specs.Demand.{Each, HeadOnce, placed, starting_from}
use Rattle.run_finder.proofs.Filled.{NoHead}
use Rattle.run_finder.proofs.Frames.{own_begins, own_most, Stands}
use Rattle.run_search.specs.Reports.{pass}

tail_none : (x : ℕ) (v : List ℕ) → NoHead (x ∷ v) → NoHead v
tail_none x v none i here = none (suc i) here

-- behind a frame's first octet
behind_head : (x : ℕ) (v : List ℕ) → HeadOnce (x ∷ v) → NoHead v
behind_head x v once i here = omega (arith, once (suc i) here)

-- a report that starts before a place is none from there on
earlier : (t : ℕ) (r : Report) (rs : List Report) → r.place < t → starting_from t (r ∷ rs) ≡ starting_from t rs
unfolding starting_from
earlier t r rs less = rw (lt-leb t r.place less)

-- behind a frame comes another's 55, or nothing
next_first : (rule : CheckRule) (fs : List (List ℕ)) → Each (Stands rule) fs → get_or (flatten fs) 0 0 ≡ 0xFF → ⊥
unfolding flatten
next_first rule [] stand e = omega arith
next_first rule ([] ∷ fs) stand e = omega (arith, stand.0.first)
next_first rule ((x ∷ v) ∷ fs) stand e = omega (arith, stand.0.first)

module _ (rule : CheckRule) where
  -- no frame starts in octets with no head, nor where they meet s
  none_starts : (x : ℕ) (v s : List ℕ) → Octets (x ∷ v ++ s) → NoHead (x ∷ v) → (get_or s 0 0 ≡ 0xFF → ⊥)
      → acceptable rule (own_octets (x ∷ v ++ s)) ≡ false
  unfolding begins_preamble
  none_starts x v s octets none seam = by (acceptable rule (own_octets (x ∷ v ++ s))) refl
    where
      no_head_lem : (v : List ℕ) → NoHead (x ∷ v) → get_or (x ∷ v ++ s) 0 0 ≡ 0x55 → get_or (x ∷ v ++ s) 1 0 ≡ 0xFF → ⊥
      no_head_lem [] none first second = seam second
      no_head_lem (y ∷ v) none first second = none 0 (rw (eq-eqb x 0x55 first) (eq-eqb y 0xFF second))

      by : (b : Bool) → acceptable rule (own_octets (x ∷ v ++ s)) ≡ b → b ≡ false
      by true e = let b = own_begins rule (x ∷ v ++ s) octets e in absurd (no_head_lem v none b.0 b.1)
      by false e = refl

  -- a pass over them goes on behind them
  pass_on : (k place : ℕ) (v s : List ℕ) → Octets (v ++ s) → NoHead v → (get_or s 0 0 ≡ 0xFF → ⊥)
      → pass rule k place (v ++ s) ≡ pass rule (k - length v) (place + length v) s
  unfolding pass
  pass_on k place [] s octets none seam = rw (sub-zero, add-zero)
  pass_on zero place (x ∷ v) s octets none seam =
      rw (none_starts x v s octets none seam)
      (pass_on zero (suc place) v s (λ i. octets (suc i)) (tail_none x v none) seam
      ∙ rw (zero-sub (length v), zero-sub (suc (length v)), suc-add, add-suc))
  pass_on (suc k) place (x ∷ v) s octets none seam =
      pass_on k (suc place) v s (λ i. octets (suc i)) (tail_none x v none) seam ∙ rw (suc-sub-suc, suc-add, add-suc)

  -- so does one from a frame's second octet on
  pass_frame : (x : ℕ) (v : List ℕ) (fs : List (List ℕ)) (k place : ℕ) → Octets (x ∷ v ++ flatten fs) → HeadOnce (x ∷ v) → Each (Stands rule) fs
      → pass rule k (suc place) (v ++ flatten fs) ≡ pass rule (k - length v) (place + suc (length v)) (flatten fs)
  pass_frame x v fs k place octets once stand =
      pass_on k (suc place) v (flatten fs) (λ i. octets (suc i)) (behind_head x v once) (next_first rule fs stand) ∙ rw (suc-add, ← add-suc)

  -- of frames alone, the first k octets of which belong to a report before: it ends at t or earlier
  frames_late : (t : ℕ) (fs : List (List ℕ)) (k place : ℕ) → (0 < k → place + k ≤ t) → Octets (flatten fs) → Each (Stands rule) fs → Each HeadOnce fs
      → starting_from t (pass rule k place (flatten fs)) ≡ starting_from t (placed place fs)
  unfolding pass starting_from flatten
  frames_late t [] k place past octets stand once = refl
  frames_late t ([] ∷ fs) k place past octets stand once = absurd (omega (arith, stand.0.first))
  frames_late t ((x ∷ v) ∷ fs) zero place past octets stand once =
      rw (stand.0.own (flatten fs), stand.0.passes, stand.0.count (flatten fs), pass_frame x v fs (suc (length v) - 1) place octets once.0 stand.1)
      (ap (λ (l : List Report). cond (leb t place) (report place (suc (length v)) ∷ l) l)
      (frames_late t fs (suc (length v) - 1 - length v) (place + suc (length v)) (λ some. omega arith) (octets_behind (x ∷ v) (flatten fs) octets) stand.1 once.1))
  frames_late t ((x ∷ v) ∷ fs) (suc k) place past octets stand once =
      rw (lt-leb t place (omega (arith, past (omega arith))), pass_frame x v fs k place octets once.0 stand.1)
      (frames_late t fs (k - length v) (place + suc (length v)) (λ some. omega (arith, past (omega arith))) (octets_behind (x ∷ v) (flatten fs) octets) stand.1 once.1)

  -- of damage and frames from place d on: a report that starts in the damage ends at d + 510 or earlier
  module _ (fs : List (List ℕ)) (stand : Each (Stands rule) fs) (once : Each HeadOnce fs) (d t : ℕ) (far : d + 510 ≤ t) where
    pub all_late : (damage : List ℕ) (k place : ℕ) → (0 < k → place + k ≤ t) → place + length damage ≡ d → Octets (damage ++ flatten fs)
        → starting_from t (pass rule k place (damage ++ flatten fs)) ≡ starting_from t (placed d fs)
    unfolding pass
    all_late [] k place past ends octets = rw (← ends, add-zero) (frames_late t fs k place past octets stand once)
    all_late (x ∷ damage) (suc k) place past ends octets =
        all_late damage k (suc place) (λ some. omega (arith, past (omega arith))) (omega arith) (λ i. octets (suc i))
    all_late (x ∷ damage) zero place past ends octets =
        by (λ k inside. all_late damage k (suc place) inside (omega arith) (λ i. octets (suc i))) (acceptable rule (own_octets (x ∷ damage ++ flatten fs))) refl
      where
        n : ℕ
        n = own_count (x ∷ damage ++ flatten fs)

        later : ℕ → List Report
        later k = pass rule k (suc place) (damage ++ flatten fs)

        by : ((k : ℕ) → (0 < k → suc place + k ≤ t) → starting_from t (later k) ≡ starting_from t (placed d fs))
            → (b : Bool) → acceptable rule (own_octets (x ∷ damage ++ flatten fs)) ≡ b
            → starting_from t (cond b (report place n ∷ later (n - 1)) (later 0)) ≡ starting_from t (placed d fs)
        by on true e =
            let most = own_most rule (x ∷ damage ++ flatten fs) octets e in
            earlier t (report place n) (later (n - 1)) (omega arith) ∙ on (n - 1) (λ some. omega arith)
        by on false e = on 0 (λ some. omega arith)
