-- The stretches of octets that pass a test and that neither neighbour lengthens.
-- Assumes nothing.
use Rattle.std.specs.Prelude.{ℕ, zero, suc, ◌+◌, ◌-◌, ◌≤◌, ◌<◌, ◌≡◌, Bool, true, false, cond, ◌&&◌, not, List, [], ◌∷◌, ◌++◌, length as size, get_or, drop}
use Rattle.runs.specs.Front.{front}

-- octets one behind another: the place of the first, and how many they are
pub record Stretch : Type 0 where
  pub start : ℕ
  pub length : ℕ

-- n octets from place i on
abbrev pub stretch : ℕ → ℕ → Stretch
stretch i n = record { start = i; length = n }

-- whether the octet before place i passes; before the first there is none
unfoldable pub before : (ℕ → Bool) → List ℕ → ℕ → Bool
before p s zero = false
before p s (suc i) = p (get_or s i 0)

-- whether a stretch starts at place i: the octet there passes, and the one before it does not
unfoldable pub starts : (ℕ → Bool) → List ℕ → ℕ → Bool
starts p s i = p (get_or s i 0) && not (before p s i)

-- the stretch that starts at place i, if one does: it goes as far as octets pass
unfoldable pub stretch_at : (ℕ → Bool) → List ℕ → ℕ → List Stretch
stretch_at p s i = cond (starts p s i) (stretch i (front p (drop i s)) ∷ []) []

-- those that start at the n places from i on, in order
unfoldable pub stretches_from : (ℕ → Bool) → List ℕ → ℕ → ℕ → List Stretch
stretches_from p s i zero = []
stretches_from p s i (suc n) = stretch_at p s i ++ stretches_from p s (suc i) n

-- those of all places
unfoldable pub stretches : (ℕ → Bool) → List ℕ → List Stretch
stretches p s = stretches_from p s 0 (size s)

-- for the law: n octets from place i on, at least one, pass, and neither neighbour lengthens them
pub record Maximal (p : ℕ → Bool) (s : List ℕ) (i n : ℕ) : Type 0 where
  pub some : 0 < n
  pub within : i + n ≤ size s
  pub all : (k : ℕ) → k < n → p (get_or s (i + k) 0) ≡ true
  pub left : 0 < i → p (get_or s (i - 1) 0) ≡ false
  pub right : i + n < size s → p (get_or s (i + n) 0) ≡ false
