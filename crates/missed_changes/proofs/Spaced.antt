-- Octets in hexadecimal digits put one behind another, with a space between two.
-- Assumes nothing.
use mathlib.Core.Path.{◌≡◌}
use mathlib.Core.List.{List, flat_map}
use Prim.Native.Nat.{ℕ, ◌+◌, ◌-◌, ◌≤◌, ◌<◌}
use native.Mathlib.Omega.{arith}
use lib.ListN.{length, take, drop, get_or, length-drop}
use lib.Seq.{take_all}
use Rattle.octets.specs.Put.{Put, put_place, put_output}
use Rattle.octets.proofs.PutEach as each
use Rattle.octets.proofs.Puts.{put_call, put_more, room_front, room_more}
use Rattle.text.specs.Text.{letters, hexadecimal}
use Rattle.missed_changes.specs.Text.{behind_space, spaced}

-- a loop that puts octets, each behind a space
abbrev pub Going : List ℕ → List ℕ → ℕ → ℕ → List ℕ → ℕ → Type 0
Going s before at = each.Going (λ _. letters " ") (hexadecimal 2) s 0 before at

module _ (s before : List ℕ) (at : ℕ) (room : at + length (flat_map behind_space s) ≤ length before) where
  pub going_start : Going s before at 0 before at
  unfolding behind_space
  going_start = each.going_start (λ _. letters " ") (hexadecimal 2) s 0 before at room

  -- a space and an octet's digits are next
  pub going_next : (i : ℕ) {out : List ℕ} {behind : ℕ} → i < length s → Going s before at i out behind → {m n : ℕ} {b c : List ℕ}
      → (m ≡ put_place (letters " ") out behind) × (b ≡ put_output (letters " ") out behind)
      → (n ≡ put_place (hexadecimal 2 (get_or s i 0)) b m) × (c ≡ put_output (hexadecimal 2 (get_or s i 0)) b m)
      → Going s before at (i + 1) c n
  unfolding behind_space
  going_next = each.going_next (λ _. letters " ") (hexadecimal 2) s 0 before at room

-- the octets of a list but the first, as a slice has them
abbrev pub others : List ℕ → List ℕ
others s = take (length s - 1) (drop 1 s)

others_are : (s : List ℕ) → others s ≡ drop 1 s
others_are s = take_all (length s - 1) (drop 1 s) (omega (arith, length-drop 1 s))

-- the first, put with no space
module _ (s before : List ℕ) (at : ℕ) (room : at + length (spaced s) ≤ length before) {m : ℕ} {b : List ℕ}
    (call : (m ≡ put_place (hexadecimal 2 (get_or s 0 0)) before at) × (b ≡ put_output (hexadecimal 2 (get_or s 0 0)) before at)) where
  first : Put (hexadecimal 2 (get_or s 0 0)) before at b m
  unfolding spaced
  first =
      let octet = hexadecimal 2 (get_or s 0 0) in
      put_call octet before at (room_front octet (flat_map behind_space (drop 1 s)) before at room) call.0 call.1

  -- leaves room for the others
  pub room_left : m + length (flat_map behind_space (others s)) ≤ length b
  unfolding spaced
  room_left = rw others_are (room_more first (flat_map behind_space (drop 1 s)) room)

  -- and with them is all
  pub going_end : (i : ℕ) {out : List ℕ} {behind : ℕ} → length (others s) ≤ i → Going (others s) b m i out behind → Put (spaced s) before at out behind
  unfolding spaced behind_space
  going_end i {out} {behind} none so =
      put_more first (rw (← others_are s) (each.going_end (λ _. letters " ") (hexadecimal 2) (others s) 0 b m i none so))
