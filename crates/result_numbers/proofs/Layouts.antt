-- The numbers of a result: three of each entry, behind those of the result itself.
-- Assumes nothing.
use mathlib.Core.Path.{◌≡◌, refl, sym, ap, ap₂, ◌∙◌}
use mathlib.Core.Bool.{cond}
use mathlib.Core.List.{List, [], ◌∷◌, ◌++◌, map}
use Prim.Native.Nat.{ℕ, zero, suc, ◌+◌, ◌*◌, ◌-◌, ◌≤◌, ◌<◌}
use native.Mathlib.Omega.{arith}
use borrow.Rule.Slice.PartMut.{mid_of, put_mid, same_len_mid}
use lib.ListN.{length, get_or, replicate, set, take, drop, take-append-drop, length-append, length-take, length-drop, length-map}
use lib.Seq.{drop-drop, take_at, drop_at, length-take-le, sets-eq}
use Rattle.std.specs.Prelude.{Option, Some, None}
use Rattle.std.specs.List.{flat_map}
use Rattle.std.proofs.lemmas.List.{take_all, take_more, flat_map_more, drop-replicate}
use Rattle.std.proofs.lemmas.List.Concat.{flat_map-append}
use Rattle.std.proofs.lemmas.Slice.{take-put_mid, drop-put_mid}
use Rattle.findings.specs.declared.error.ValidationError.{ValidationError}
use Rattle.findings.specs.declared.warning.ValidationWarning.{ValidationWarning}
use Rattle.findings.specs.declared.ValidationResult.{ValidationResult}
use Rattle.findings.specs.Entries.{filled, entry_numbers}
use Rattle.findings.specs.Error.{error_numbers}
use Rattle.findings.specs.Warning.{warning_numbers}
use Rattle.findings.specs.Link.{link_number}
use Rattle.result_numbers.specs.Layout.{result_numbers}

-- three numbers, one by one
three : (l : List ℕ) → length l ≡ 3 → get_or l 0 0 ∷ get_or l 1 0 ∷ get_or l 2 0 ∷ [] ≡ l
three [] is-3 = absurd (omega arith)
three (a ∷ []) is-3 = absurd (omega arith)
three (a ∷ b ∷ []) is-3 = absurd (omega arith)
three (a ∷ b ∷ c ∷ []) is-3 = refl
three (a ∷ b ∷ c ∷ d ∷ l) is-3 = absurd (omega arith)

-- the numbers of the first i entries are in front, and what is behind them is as it was
pub record Going {E : Type 0} (f : E → List ℕ) (entries : List E) (old : List ℕ) (i : ℕ) (now : List ℕ) : Type 0 where
  pub front : take (3 * i) now ≡ flat_map f (take i entries)
  pub rest : drop (3 * i) now ≡ drop (3 * i) old

module _ {E : Type 0} (f : E → List ℕ) (entries : List E) (old : List ℕ) where
  pub going_start : Going f entries old 0 old
  going_start = record { front = refl; rest = refl }

  -- an entry more
  pub going_next : (i : ℕ) {now : List ℕ} (d : E) {told : List ℕ} → Going f entries old i now → 3 * i + 3 ≤ length now → i < length entries
      → told ≡ f (get_or entries i d) → length told ≡ 3
      → Going f entries old (i + 1) (set (set (set now (3 * i) (get_or told 0 0)) (3 * i + 1) (get_or told 1 0)) (3 * i + 2) (get_or told 2 0))
  going_next i {now} d {told} g room less is-told is-3 = record {
    front = ap (take (3 * (i + 1))) stored ∙ take_at front behind (3 * (i + 1)) many ∙ ap₂ (λ (a b : List ℕ). a ++ b) g.front is-told ∙ one_more;
    rest = ap (drop (3 * (i + 1))) stored ∙ drop_at front behind (3 * (i + 1)) many ∙ dropped;
  }
    where
      front : List ℕ
      front = take (3 * i) now ++ told

      behind : List ℕ
      behind = drop (3 * i + 3) now

      many : length front ≡ 3 * (i + 1)
      many = omega (arith, length-append (take (3 * i) now) told, length-take-le (3 * i) now (omega arith))

      stored : set (set (set now (3 * i) (get_or told 0 0)) (3 * i + 1) (get_or told 1 0)) (3 * i + 2) (get_or told 2 0) ≡ front ++ behind
      stored =
          let one : 3 * i + 1 ≡ suc (3 * i) = omega arith in
          let two : 3 * i + 2 ≡ suc (suc (3 * i)) = omega arith in
          ap₂ (λ (m n : ℕ). set (set (set now (3 * i) (get_or told 0 0)) m (get_or told 1 0)) n (get_or told 2 0)) one two
          ∙ sets-eq (get_or told 0 0 ∷ get_or told 1 0 ∷ get_or told 2 0 ∷ []) now (3 * i) room
          ∙ ap (λ (l : List ℕ). take (3 * i) now ++ l ++ behind) (three told is-3)

      one_more : flat_map f (take i entries) ++ f (get_or entries i d) ≡ flat_map f (take (i + 1) entries)
      one_more = flat_map_more f [] (take i entries) (get_or entries i d) ∙ ap (flat_map f) (sym (take_more entries i d less))

      dropped : behind ≡ drop (3 * (i + 1)) old
      dropped =
          let more : 3 * (i + 1) ≡ 3 * i + 3 = omega arith in
          sym (drop-drop 3 (3 * i) now)
          ∙ ap (drop 3) g.rest
          ∙ drop-drop 3 (3 * i) old
          ∙ ap (λ (k : ℕ). drop k old) (sym more)

  pub going_end : {i : ℕ} {now : List ℕ} → Going f entries old i now → i ≡ length entries
      → now ≡ flat_map f entries ++ drop (3 * length entries) old
  going_end {i} {now} g all =
      sym (take-append-drop (3 * i) now)
      ∙ ap₂ (λ (a b : List ℕ). a ++ b) (g.front ∙ ap (flat_map f) (take_all i entries (omega arith))) (g.rest ∙ ap (λ (k : ℕ). drop (3 * k) old) all)

module _ {F : Type 0} (numbers_of : F → List ℕ) where
  -- unused entries give zeros
  zeros : (k : ℕ) → flat_map (entry_numbers numbers_of) (replicate k None) ≡ replicate (3 * k) 0
  zeros zero = refl
  zeros (suc k) =
      let more : 3 * suc k ≡ suc (suc (suc (3 * k))) = omega arith in
      ap (λ (l : List ℕ). 0 ∷ 0 ∷ 0 ∷ l) (zeros k) ∙ ap (λ (n : ℕ). replicate {A = ℕ} n 0) (sym more)

  -- the numbers of findings, and zeros behind them, are those of entries filled with them
  pub filled_numbers : (n m : ℕ) (findings : List F) → length findings ≤ n → m ≡ 3 * n
      → flat_map (entry_numbers numbers_of) (map Some findings) ++ drop (3 * length (map Some findings)) (replicate m 0)
      ≡ flat_map (entry_numbers numbers_of) (filled n findings)
  unfolding filled
  filled_numbers n m findings few is-m =
      let many = length-map findings Some in
      let rest : m - 3 * length (map Some findings) ≡ 3 * (n - length findings) = omega (arith, many) in
      let entries = entry_numbers numbers_of in
      ap (λ (l : List ℕ). flat_map entries (map Some findings) ++ l)
      (drop-replicate (3 * length (map Some findings)) m 0 ∙ ap (λ (k : ℕ). replicate {A = ℕ} k 0) rest ∙ sym (zeros (n - length findings)))
      ∙ sym (flat_map-append entries (map Some findings) (replicate (n - length findings) None))

-- numbers put behind five, and others behind them
pub behind_five : (a b c d e : ℕ) (errors warnings : List ℕ) → length errors ≡ 21 → length warnings ≡ 6
    → put_mid 26 6 (put_mid 5 21 (a ∷ b ∷ c ∷ d ∷ e ∷ replicate 27 0) errors) warnings ≡ a ∷ b ∷ c ∷ d ∷ e ∷ errors ++ warnings
behind_five a b c d e errors warnings is-21 is-6 =
    let five : List ℕ = a ∷ b ∷ c ∷ d ∷ e ∷ replicate {A = ℕ} 27 0 in
    let some : List ℕ = put_mid 5 21 five errors in
    let many : length some ≡ 32 = same_len_mid 5 21 five errors is-21 in
    let all : length (put_mid 26 6 some warnings) ≡ 32
    = same_len_mid 26 6 some warnings (is-6 ∙ sym (simp (length-take, length-drop, many))) ∙ many in
    sym (take_all 32 (put_mid 26 6 some warnings) (omega arith))
    ∙ take-put_mid 26 6 some warnings 32 (omega arith) (omega arith)
    ∙ ap (λ (l : List ℕ). l ++ warnings) (take-put_mid 5 21 five errors 26 (omega arith) (omega arith))

-- a result is laid out by its parts
module _ (r : ValidationResult) (valid link e w : ℕ) where
  abbrev five : List ℕ
  five = valid ∷ link ∷ r.frame_size ∷ e ∷ w ∷ replicate 27 0

  pub laid_out : {found_errors : List (Option ValidationError)} {found_warnings : List (Option ValidationWarning)} {errors warnings : List ℕ}
      → valid ≡ cond r.is_valid 1 0 → link ≡ link_number r.link_type → e ≡ length r.errors → e ≤ 7 → w ≡ length r.warnings → w ≤ 2
      → found_errors ≡ map Some r.errors
      → errors ≡ flat_map (entry_numbers error_numbers) found_errors ++ drop (3 * length found_errors) (mid_of 5 21 five)
      → found_warnings ≡ map Some r.warnings
      → warnings ≡ flat_map (entry_numbers warning_numbers) found_warnings ++ drop (3 * length found_warnings) (mid_of 26 6 (put_mid 5 21 five errors))
      → length errors ≡ 21 → length warnings ≡ 6
      → put_mid 26 6 (put_mid 5 21 five errors) warnings ≡ result_numbers r
  unfolding result_numbers
  laid_out {errors = errors} {warnings = warnings} is-valid is-link is-e few_errors is-w few_warnings are-errors put_errors are-warnings put_warnings is-21 is-6 =
      let all_errors : errors ≡ flat_map (entry_numbers error_numbers) (filled 7 r.errors)
      = rw are-errors at put_errors ∙ filled_numbers error_numbers 7 21 r.errors (omega arith) (omega arith) in
      let behind : mid_of 26 6 (put_mid 5 21 five errors) ≡ replicate 6 0 = ap (take 6) (drop-put_mid 5 21 five errors 26 (omega arith) (omega arith) is-21) in
      let all_warnings : warnings ≡ flat_map (entry_numbers warning_numbers) (filled 2 r.warnings)
      = rw (are-warnings, behind) at put_warnings ∙ filled_numbers warning_numbers 2 6 r.warnings (omega arith) (omega arith) in
      behind_five valid link r.frame_size e w errors warnings is-21 is-6
      ∙ rw (is-valid, is-link, is-e, is-w, all_errors, all_warnings) refl
