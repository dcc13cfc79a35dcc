-- What the entries in the lent list are, said without `entries`: a further promise of `detect_patterns`.
-- Assumes nothing.
use Rattle.std.specs.Prelude.{ℕ, ◌+◌, ◌-◌, ◌*◌, ◌≤◌, ◌<◌, ◌≡◌, List, [], ◌∷◌, length, get_or, take, drop, Result, IfOk}
use Rattle.octets.specs.declared.refusal.Refusal.{Refusal}
use Rattle.patterns.specs.Stretches.{Maximal}
use Rattle.patterns.specs.Entries.{printable}

-- the numbers of entry k of a list
abbrev pub numbers_at : List ℕ → ℕ → List ℕ
numbers_at l k = take 4 (drop (4 * k) l)

-- entry k of the n in front of a list is of a pattern, and has this start, length and value
abbrev pub EntryAt : ℕ → ℕ → List ℕ → ℕ → ℕ → ℕ → ℕ → Type 0
EntryAt pattern n l k i m v = (k < n) × (numbers_at l k ≡ pattern ∷ i ∷ m ∷ v ∷ [])

-- of the n entries in front of a list, those of a pattern are the ones whose start, length and value P allows, and none is missing
pub record Shown (pattern : ℕ) (P : ℕ → ℕ → ℕ → Type 0) (n : ℕ) (l : List ℕ) : Type 0 where
  pub each : (k i m v : ℕ) → EntryAt pattern n l k i m v → P i m v
  pub every : (i m v : ℕ) → P i m v → (k : ℕ) × EntryAt pattern n l k i m v

-- so it is where the answer is a count
abbrev pub Shows : ℕ → (ℕ → ℕ → ℕ → Type 0) → Result ℕ Refusal → List ℕ → Type 0
Shows pattern P answer l = IfOk answer (λ n. Shown pattern P n l)

-- a padding: at least 4 octets v up to the end, index 0 not among them, which the octet before, if not at index 0, does not lengthen
pub record Padding (s : List ℕ) (i m v : ℕ) : Type 0 where
  pub some : 4 ≤ m
  pub inside : 0 < i
  pub ends : i + m ≡ length s
  pub all : (k : ℕ) → k < m → get_or s (i + k) 0 ≡ v
  pub left : 1 < i → get_or s (i - 1) 0 ≡ v → ⊥

-- a text: a maximal stretch of at least 4 octets 20 to 7E, with value 0
pub record Text (s : List ℕ) (i m v : ℕ) : Type 0 where
  pub some : 4 ≤ m
  pub maximal : Maximal printable s i m
  pub value : v ≡ 0
