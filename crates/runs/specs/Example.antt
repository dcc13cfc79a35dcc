-- What "no other run is a longest one" says of some octets: it leaves one run.
-- Assumes nothing.
use Rattle.std.specs.Prelude.{◌≡◌, List, [], ◌∷◌, ℕ}
use Rattle.runs.specs.Longest.{run, OnlyLongest}
use Rattle.runs.specs.declared.Run.{Run}

-- of some octets, the only longest run can be no other than this
abbrev pub Leaves : List ℕ → Run → Type 0
Leaves s this = (r : Run) → OnlyLongest s r → r ≡ this

-- no octets, one octet, and equal runs, of which the first is left
pub record Example : Type 0 where
  pub none : Leaves [] (run 0 0x00 0)
  pub one : Leaves (0x41 ∷ []) (run 0 0x41 1)
  pub equals : Leaves (0x41 ∷ 0x42 ∷ 0x42 ∷ 0x41 ∷ 0x41 ∷ []) (run 1 0x42 2)
