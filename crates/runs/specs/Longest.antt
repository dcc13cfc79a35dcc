-- The longest run of one value, the earliest of equals, and what it is.
-- Assumes nothing.
use Rattle.std.specs.Prelude.{◌≡◌, ℕ, zero, suc, ◌+◌, ◌-◌, ◌≤◌, ◌<◌, List, reverse, cond, ltb, length, get_or, take}
use Rattle.runs.specs.Front.{equal_at_end}
use Rattle.runs.specs.declared.Run.{Run}

-- n octets x from place p on
abbrev pub run : ℕ → ℕ → ℕ → Run
run p x n = record { start = p; octet = x; length = n }

-- the run that some octets end with
unfoldable pub last_run : List ℕ → Run
last_run s = run (length s - equal_at_end s) (get_or (reverse s) 0 0) (equal_at_end s)

-- the longer of two, and the first where they are equally long
unfoldable pub longer : Run → Run → Run
longer a b = cond (ltb a.length b.length) b a

-- of the runs that end within the first n octets of s, the longest
unfoldable pub longest_within : ℕ → List ℕ → Run
longest_within zero s = run 0 0 0
longest_within (suc n) s = longer (longest_within n s) (last_run (take (suc n) s))

-- the longest run
abbrev pub longest : List ℕ → Run
longest s = longest_within (length s) s

-- n octets of one value from place i on
abbrev pub OneValue : List ℕ → ℕ → ℕ → Type 0
OneValue s i n = (i + n ≤ length s) × ((k : ℕ) → k < n → get_or s (i + k) 0 ≡ get_or s i 0)

-- what a longest run is: octets of one value, as long as any such octets, and none as long starts before it
pub record Longest (s : List ℕ) (r : Run) : Type 0 where
  pub same : OneValue s r.start r.length
  pub value : r.octet ≡ get_or s r.start 0
  pub most : (i n : ℕ) → OneValue s i n → n ≤ r.length
  pub first : (i n : ℕ) → OneValue s i n → r.length ≤ n → r.start ≤ i

-- no other run is a longest one
abbrev pub OnlyLongest : List ℕ → Run → Type 0
OnlyLongest s r = (other : Run) → Longest s other → other ≡ r
