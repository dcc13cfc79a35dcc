-- A loop that puts, for each element of a list from a place on, two lists one behind the other.
-- Assumes nothing.
use mathlib.Core.Path.{◌≡◌, subst}
use mathlib.Core.List.{List, [], ◌++◌, flat_map}
use Prim.Native.Nat.{ℕ, ◌+◌, ◌≤◌, ◌<◌}
use native.Mathlib.Numerals.{add-one}
use native.Mathlib.Omega.{arith}
use lib.ListN.{length, drop, get_or, drop_of_length-le}
use lib.Seq.{drop-cons}
use Rattle.octets.specs.Put.{Put, put_place, put_output}
use Rattle.octets.proofs.Puts.{put_calls, Putting, putting_start, putting_room, putting_next, putting_end}

module _ (f g : ℕ → List ℕ) (s : List ℕ) where
  -- what is put for the elements from a place on
  abbrev left : ℕ → List ℕ
  left i = flat_map (λ x. f x ++ g x) (drop i s)

  left_next : (i : ℕ) → i < length s → left i ≡ (f (get_or s i 0) ++ g (get_or s i 0)) ++ left (i + 1)
  unfolding flat_map
  left_next i more = rw (add-one, drop-cons s i 0)

  left_none : (i : ℕ) → length s ≤ i → left i ≡ []
  unfolding flat_map
  left_none i none = rw (drop_of_length-le s none)

  -- what was put so far, and what is left, is all
  module _ (from : ℕ) (before : List ℕ) (at : ℕ) where
    abbrev pub Going : ℕ → List ℕ → ℕ → Type 0
    Going i out behind = Putting (left from) before at (left i) out behind

    module _ (room : at + length (left from) ≤ length before) where
      pub going_start : Going from before at
      going_start = putting_start (left from) before at (omega arith)

      -- the next element's two calls
      pub going_next : (i : ℕ) {out : List ℕ} {behind : ℕ} → i < length s → Going i out behind → {m n : ℕ} {b c : List ℕ}
          → (m ≡ put_place (f (get_or s i 0)) out behind) × (b ≡ put_output (f (get_or s i 0)) out behind)
          → (n ≡ put_place (g (get_or s i 0)) b m) × (c ≡ put_output (g (get_or s i 0)) b m) → Going (i + 1) c n
      going_next i {out} {behind} more so first second =
          let x = get_or s i 0 in
          let here = f x ++ g x in
          let next : Putting (left from) before at (here ++ left (i + 1)) out behind = rw (left_next i more) at so in
          putting_next here (left (i + 1)) next
          (put_calls (f x) (g x) out behind (putting_room here (left (i + 1)) next room) first.0 first.1 second.0 second.1)

    pub going_end : (i : ℕ) {out : List ℕ} {behind : ℕ} → length s ≤ i → Going i out behind → Put (left from) before at out behind
    going_end i {out} {behind} none so =
        putting_end (subst (λ (l : List ℕ). Putting (left from) before at l out behind) (left_none i none) so)
