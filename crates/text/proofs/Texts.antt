-- Texts put one behind another by calls that answer as `octets::put` does.
-- Assumes nothing.
use mathlib.Core.Path.{◌≡◌, sym, subst}
use mathlib.Core.List.{List, [], ◌∷◌}
use Prim.Native.Nat.{ℕ, ◌+◌, ◌≤◌}
use native.Mathlib.Omega.{arith}
use lib.ListN.{length}
use Rattle.octets.specs.Put.{Put, put_place, put_output}
use Rattle.octets.proofs.Puts.{put_call, put_more, put_is, put_nothing, room_front, room_more}
use Rattle.text.specs.Text.{texts}

-- texts put in turn, each at the place that the call before it answered
pub data InTurn : List (List ℕ) → List ℕ → ℕ → List ℕ → ℕ → Type 0 where
  none : {a : List ℕ} {at : ℕ} → InTurn [] a at a at
  then : {x a b c : List ℕ} {xs : List (List ℕ)} {at m n : ℕ} → (m ≡ put_place x a at) × (b ≡ put_output x a at) → InTurn xs b m c n → InTurn (x ∷ xs) a at c n

-- where there is room for all, all are put
all_put : {xs : List (List ℕ)} {a c : List ℕ} {at n : ℕ} → InTurn xs a at c n → at + length (texts xs) ≤ length a → Put (texts xs) a at c n
all_put {at = at} (none {a = a}) room = put_nothing a at (omega arith)
all_put {at = at} (then {x = x} {a = a} {xs = xs} call on) room =
    let first = put_call x a at (room_front x (texts xs) a at room) call.0 call.1 in
    put_more first (all_put on (room_more first (texts xs) room))

-- so is a text that is made of them
pub puts : (text : List ℕ) {xs : List (List ℕ)} {a c : List ℕ} {at n : ℕ} → InTurn xs a at c n → texts xs ≡ text → at + length text ≤ length a
    → Put text a at c n
puts text {a = a} {at = at} turns same room =
    put_is same (all_put turns (subst (λ (l : List ℕ). at + length l ≤ length a) (sym same) room))
