-- The last digits of a number, the last one first.
-- Assumes nothing.
use mathlib.Core.Path.{◌≡◌, sym}
use mathlib.Core.List.{List, [], ◌∷◌, ◌++◌, append_assoc}
use Prim.Native.Nat.{ℕ, zero, suc, ◌-◌, ◌/◌, ◌%◌, ◌≤◌, ◌<◌}
use native.Mathlib.Omega.{arith}
use native.Mathlib.Numerals.{add-one}
use lib.ListN.{length, get_or, set, drop}
use Rattle.std.proofs.lemmas.List.{drop-set}
use Rattle.text.specs.Text.{letters, hexadecimal}

-- one digit more at the place before those that are there, and the number is left without it
pub digit_more : (k n : ℕ) (there : List ℕ) {digit : ℕ} → 0 < k → k ≤ length there → digit ≡ get_or (letters "0123456789ABCDEF") (n % 16) 0
    → hexadecimal (k - 1) (n / 16) ++ drop (k - 1) (set there (k - 1) digit) ≡ hexadecimal k n ++ drop k there
digit_more zero n there some fits e = absurd (omega arith)
digit_more (suc k) n there {digit} some fits e =
    let one : suc k - 1 ≡ k = omega arith in
    rw (one, drop-set there k digit (omega arith), e, add-one k)
    (sym (append_assoc (hexadecimal k (n / 16)) (get_or (letters "0123456789ABCDEF") (n % 16) 0 ∷ []) (drop (suc k) there)))
