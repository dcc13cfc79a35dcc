-- Entries that hold findings: none, and one more.
-- Assumes nothing.
use mathlib.Core.Path.{◌≡◌, refl, sym, ap, ◌∙◌}
use mathlib.Core.List.{List, [], ◌∷◌, ◌++◌, map}
use Prim.Native.Nat.{ℕ, zero, suc, ◌+◌, ◌-◌, ◌<◌}
use native.Mathlib.Omega.{arith}
use lib.ListN.{length, replicate, set, take, length-append, length-map}
use lib.Seq.{take_at}
use Rattle.std.specs.Prelude.{Option, Some, None}
use Rattle.std.specs.Option.{some_prefix}
use Rattle.std.proofs.lemmas.List.{take_all}
use Rattle.findings.specs.Entries.{filled, Holds}

module _ {F : Type 0} where
  -- unused entries show no findings
  pub shows_none : (n : ℕ) → some_prefix (replicate {A = Option F} n None) ≡ []
  shows_none zero = refl
  shows_none (suc n) = refl

  -- entries filled with findings show these
  shows : (n : ℕ) (findings : List F) → some_prefix (filled n findings) ≡ findings
  unfolding filled
  shows n findings = by findings (n - length findings)
    where
      by : (l : List F) (k : ℕ) → some_prefix (map Some l ++ replicate k None) ≡ l
      by [] k = shows_none k
      by (x ∷ l) k = ap (λ (r : List F). x ∷ r) (by l k)

  filled_none : (n : ℕ) → replicate {A = Option F} n None ≡ filled n []
  unfolding filled
  filled_none n = let same : n ≡ n - 0 = omega arith in ap (λ (k : ℕ). replicate {A = Option F} k None) same

  -- a finding put on the first unused entry
  filled_more : (n : ℕ) (findings : List F) (finding : F) → length findings < n
      → set (filled n findings) (length findings) (Some finding) ≡ filled n (findings ++ finding ∷ [])
  unfolding filled
  filled_more n findings finding room =
      let one_free : n - length findings ≡ suc (n - (length findings + 1)) = omega arith in
      let others_free : n - (length findings + 1) ≡ n - length (findings ++ finding ∷ []) = omega (arith, length-append findings (finding ∷ [])) in
      ap (λ (k : ℕ). set (map Some findings ++ replicate k None) (length findings) (Some finding)) one_free
      ∙ by findings (n - (length findings + 1))
      ∙ ap (λ (k : ℕ). map Some (findings ++ finding ∷ []) ++ replicate k None) others_free
    where
      by : (l : List F) (k : ℕ)
          → set (map Some l ++ replicate {A = Option F} (suc k) None) (length l) (Some finding) ≡ map Some (l ++ finding ∷ []) ++ replicate k None
      by [] k = refl
      by (x ∷ l) k = ap (λ (r : List (Option F)). Some x ∷ r) (by l k)

  pub holds_none : (n : ℕ) → Holds n (replicate {A = Option F} n None) 0
  holds_none n = record {
    are = filled_none n ∙ ap (filled n) (sym (shows_none n));
    many = ap length (sym (shows_none n));
    few = omega arith;
  }

module _ {F : Type 0} {n : ℕ} {entries : List (Option F)} {count : ℕ} (h : Holds n entries count) (finding : F) (room : count < n) where
  more_filled : (findings : List F) → entries ≡ filled n findings → count ≡ length findings
      → set entries count (Some finding) ≡ filled n (findings ++ finding ∷ [])
  more_filled findings are many = rw (are, many) (filled_more n findings finding (omega arith))

  -- one more is shown
  more_shown : some_prefix (set entries count (Some finding)) ≡ some_prefix entries ++ finding ∷ []
  more_shown = ap some_prefix (more_filled _ h.are h.many) ∙ shows n (some_prefix entries ++ finding ∷ [])

  pub holds_more : Holds n (set entries count (Some finding)) (count + 1)
  holds_more = record {
    are = more_filled _ h.are h.many ∙ ap (filled n) (sym more_shown);
    many = omega (arith, h.many, ap length more_shown, length-append (some_prefix entries) (finding ∷ []));
    few = omega arith;
  }

  -- there is room for it
  pub added : {old : List F} → some_prefix entries ≡ old → some_prefix (set entries count (Some finding)) ≡ take n (old ++ finding ∷ [])
  added {old} is-old =
      more_shown
      ∙ rw is-old (sym (take_all n (old ++ finding ∷ []) (omega (arith, h.many, ap length is-old, length-append old (finding ∷ [])))))

-- the entries that are used
module _ {F : Type 0} {n : ℕ} {entries : List (Option F)} {count : ℕ} (h : Holds n entries count) where
  pub used : {findings : List F} → some_prefix entries ≡ findings → take count entries ≡ map Some findings
  unfolding filled
  used {findings} is =
      let all : List (Option F) = map Some (some_prefix entries) in
      let many : length all ≡ count = length-map (some_prefix entries) Some ∙ sym h.many in
      ap (take count) h.are ∙ take_at all _ count many ∙ ap (map Some) is
