-- What one changed octet can do to the statistics.
-- Assumes nothing.
use Rattle.std.specs.Prelude.{◌≡◌, List, ◌∷◌, ◌++◌, ℕ, ◌+◌, ◌*◌, ◌≤◌, ◌<◌, length, get_or, set, replicate, Ok}
use Rattle.octets.specs.Change.{DifferAt, DifferInOne}
use Rattle.runs.specs.Longest.{longest}
use Rattle.statistics.specs.declared.FrameStatistics.{FrameStatistics}
use Rattle.statistics.specs.Statistics.{null_bytes, high_bytes, statistics}

-- counts that differ by at most 1
abbrev pub ByAtMost1 : ℕ → ℕ → Type 0
ByAtMost1 m n = (m ≤ n + 1) × (n ≤ m + 1)

-- lengths, each at most twice the other plus 1
abbrev pub ByAtMostTwice : ℕ → ℕ → Type 0
ByAtMostTwice m n = (m ≤ 2 * n + 1) × (n ≤ 2 * m + 1)

-- how near two statistics are
pub record Near (t u : FrameStatistics) : Type 0 where
  pub null : ByAtMost1 t.null_bytes u.null_bytes
  pub high : ByAtMost1 t.high_bytes u.high_bytes
  pub longest : ByAtMostTwice t.longest_run.length u.longest_run.length

-- octets that differ from s in exactly one have statistics too, and these are near to t
abbrev pub OneChanged : List ℕ → FrameStatistics → Type 0
OneChanged s t =
    (other : List ℕ) → DifferInOne s other → (u : FrameStatistics) × ((statistics other ≡ Ok u) × Near t u)

-- n octets FF, one of 00, and n more
abbrev pub parted : ℕ → List ℕ
parted n = replicate n 0xFF ++ 0x00 ∷ replicate n 0xFF

-- the same with FF in the middle
abbrev pub joined : ℕ → List ℕ
joined n = replicate n 0xFF ++ 0xFF ∷ replicate n 0xFF

-- they differ in one octet, and their statistics as far as these can: zeros and high octets by 1, longest runs n and twice n plus 1
pub record Farthest (n : ℕ) : Type 0 where
  pub differ : DifferAt n (parted n) (joined n)
  pub null : null_bytes (parted n) ≡ null_bytes (joined n) + 1
  pub high : high_bytes (joined n) ≡ high_bytes (parted n) + 1
  pub shorter : (longest (parted n)).length ≡ n
  pub longer : (longest (joined n)).length ≡ 2 * n + 1

-- that much is reached, for every n but 0; and what is promised of t holds for another octet stored anywhere
pub record Reached : Type 0 where
  pub farthest : (n : ℕ) → 0 < n → Farthest n
  pub anywhere : (s : List ℕ) (t : FrameStatistics) (place octet : ℕ)
      → OneChanged s t
      → place < length s
      → (octet ≡ get_or s place 0 → ⊥)
      → (u : FrameStatistics) × ((statistics (set s place octet) ≡ Ok u) × Near t u)
