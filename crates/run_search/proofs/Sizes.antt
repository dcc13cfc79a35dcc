-- The octet count at a place: what the header there says, and at least 8.
-- Assumes nothing.
use mathlib.Core.Path.{◌≡◌}
use mathlib.Core.Bool.{Bool, true, false, cond}
use mathlib.Core.List.{List}
use Prim.Native.Nat.{ℕ, ◌≤◌}
use native.Mathlib.Omega.{arith}
use borrow.Author.Tests.{le-leb}
use lib.Dec.{leb}
use lib.ListN.{length, drop}
use Rattle.mstp_frame.proofs.Sizes.{size_least}
use Rattle.mstp_frame.specs.Fields.{data_length}
use Rattle.run_search.specs.Acceptable.{own_count}
use Rattle.run_search.specs.Search.{size_at}

module _ (run : List ℕ) (p : ℕ) where
  pub size_own : 8 ≤ length (drop p run) → size_at run p ≡ own_count (drop p run)
  unfolding size_at
  size_own long = rw (le-leb 8 (length (drop p run)) long)

  pub size_8 : 8 ≤ size_at run p
  unfolding size_at
  size_8 = by (leb 8 (length (drop p run)))
    where
      by : (b : Bool) → 8 ≤ cond b (own_count (drop p run)) 8
      by true = size_least (data_length (drop p run))
      by false = omega arith
