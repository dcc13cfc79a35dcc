-- Numbers put at a place of a list, which keeps all else.
-- Assumes nothing.
use Rattle.std.specs.Prelude.{ℕ, ◌+◌, ◌≤◌, ◌≡◌, Bool, cond, List, leb, length}
use Rattle.std.proofs.lemmas.List.Edits.{sets}

-- xs were put at a place, within what was `before`: the place behind them, and what is there after
pub record Put (xs before : List ℕ) (at : ℕ) (after : List ℕ) (behind : ℕ) : Type 0 where
  pub place : behind ≡ at + length xs
  pub fits : behind ≤ length before
  pub list : after ≡ sets before at xs

module _ (xs before : List ℕ) (at : ℕ) where
  -- whether they fit there
  unfoldable pub fits_at : Bool
  fits_at = leb (at + length xs) (length before)

  -- the place behind them; the place itself where they do not fit
  unfoldable pub put_place : ℕ
  put_place = cond fits_at (at + length xs) at

  -- the list afterwards; as it was where they do not fit
  unfoldable pub put_output : List ℕ
  put_output = cond fits_at (sets before at xs) before
