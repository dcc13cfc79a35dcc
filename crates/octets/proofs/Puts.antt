-- Lists put one behind another are one list put, and what was put so far, with what is left, is all.
-- Assumes nothing.
use mathlib.Core.Path.{◌≡◌, refl, sym, ap, ap₂, subst, ◌∙◌}
use mathlib.Core.List.{List, [], ◌++◌, append_assoc, append-nil}
use Prim.Native.Nat.{ℕ, ◌+◌, ◌-◌, ◌≤◌, ◌<◌}
use native.Mathlib.Nat.{add-zero}
use native.Mathlib.Omega.{arith}
use borrow.Author.Tests.{le-leb, lt-leb}
use borrow.Rule.Slice.PartMut.{put_mid}
use lib.ListN.{length, take, drop, length-append, drop_of_length-le}
use lib.Seq.{drop-drop, sets, sets-eq, length-sets}
use Rattle.octets.specs.Output.{at_front}
use Rattle.octets.specs.Put.{Put, fits_at, put_place, put_output}
use Rattle.octets.proofs.Outputs.{sets_append, front_sets}

-- what a copy into the part at a place leaves
pub put_part : (xs l : List ℕ) (at : ℕ) {p : List ℕ} → at + length xs ≤ length l → p ≡ xs → put_mid at (at + length xs - at) l p ≡ sets l at xs
put_part xs l at {p} room copied =
    let size : at + length xs - at ≡ length xs = omega arith in
    rw (copied, size) (ap (λ (r : List ℕ). take at l ++ (xs ++ r)) (drop-drop (length xs) at l) ∙ sym (append_assoc (take at l) xs (drop (at + length xs) l)) ∙ sym (sets-eq xs l at room))

-- what `put` answers and leaves
module _ (xs before : List ℕ) (at : ℕ) where
  -- where there is room
  pub put_there : at + length xs ≤ length before → (put_place xs before at ≡ at + length xs) × (put_output xs before at ≡ sets before at xs)
  unfolding put_place put_output fits_at
  put_there room = let z = le-leb (at + length xs) (length before) room in (rw z, rw z)

  -- where there is none
  pub put_none : length before < at + length xs → (at ≡ put_place xs before at) × (before ≡ put_output xs before at)
  unfolding put_place put_output fits_at
  put_none over = let z = lt-leb (at + length xs) (length before) over in (rw z, rw z)

  -- so a call of `put` with room puts them
  pub put_call : {r : ℕ} {after : List ℕ} → at + length xs ≤ length before → r ≡ put_place xs before at → after ≡ put_output xs before at
      → Put xs before at after r
  put_call room answer left =
      let place = answer ∙ (put_there room).0 in
      record { place = place; fits = omega (arith, place, room); list = left ∙ (put_there room).1 }

module _ {xs a b : List ℕ} {at m : ℕ} (first : Put xs a at b m) where
  -- as many as before
  pub put_size : length b ≡ length a
  put_size = ap length first.list ∙ length-sets a at xs

  -- a list put behind it
  pub put_more : {ys c : List ℕ} {n : ℕ} → Put ys b m c n → Put (xs ++ ys) a at c n
  put_more {ys} second = record {
    place = rw length-append (omega (arith, first.place, second.place));
    fits = omega (arith, put_size, second.fits);
    list = second.list ∙ ap₂ (λ (l : List ℕ) (i : ℕ). sets l i ys) first.list first.place ∙ sym (sets_append a at xs ys);
  }

  -- of the room for both, the second's is left
  pub room_more : (ys : List ℕ) → at + length (xs ++ ys) ≤ length a → m + length ys ≤ length b
  room_more ys room = omega (arith, first.place, put_size, length-append xs ys)

-- room for two is room for the first
pub room_front : (xs ys a : List ℕ) (at : ℕ) → at + length (xs ++ ys) ≤ length a → at + length xs ≤ length a
room_front xs ys a at room = omega (arith, length-append xs ys)

-- two calls of `put`, one behind the other, with room for both
pub put_calls : (xs ys before : List ℕ) (at : ℕ) {m n : ℕ} {b c : List ℕ} → at + length (xs ++ ys) ≤ length before
    → m ≡ put_place xs before at → b ≡ put_output xs before at → n ≡ put_place ys b m → c ≡ put_output ys b m
    → Put (xs ++ ys) before at c n
put_calls xs ys before at {m} {n} {b} {c} room place left place-2 left-2 =
    let first : Put xs before at b m = put_call xs before at (room_front xs ys before at room) place left in
    put_more first (put_call ys b m (room_more first ys room) place-2 left-2)

-- an equal list put
pub put_is : {xs ys before after : List ℕ} {at behind : ℕ} → xs ≡ ys → Put xs before at after behind → Put ys before at after behind
put_is {xs} {ys} {before} {after} {at} {behind} e put = subst (λ (l : List ℕ). Put l before at after behind) e put

-- what a call puts is put too by the name of an equal list
pub put_equal : {xs ys : List ℕ} (before : List ℕ) (at : ℕ) {after : List ℕ} {r : ℕ} → xs ≡ ys
    → (r ≡ put_place xs before at) × (after ≡ put_output xs before at) → (r ≡ put_place ys before at) × (after ≡ put_output ys before at)
put_equal before at {after} {r} same call =
    subst (λ (l : List ℕ). (r ≡ put_place l before at) × (after ≡ put_output l before at)) same call

-- nothing put
pub put_nothing : (l : List ℕ) (at : ℕ) → at ≤ length l → Put [] l at l at
put_nothing l at room = record { place = sym (add-zero at); fits = room; list = refl }

-- a list put at place 0 is in front
pub put_front : {xs before after : List ℕ} {n : ℕ} → Put xs before 0 after n → (n ≡ length xs) × (after ≡ at_front xs before)
unfolding at_front
put_front {xs} {before} {after} {n} put =
    let count : n ≡ length xs = omega (arith, put.place) in
    (count, put.list ∙ front_sets [] xs before {l = before} {n = 0} refl refl (omega (arith, put.fits)))

-- one that has as many elements as there are is all there is
pub put_whole : {xs before after : List ℕ} {n : ℕ} → length xs ≡ length before → Put xs before 0 after n → after ≡ xs
unfolding at_front
put_whole {xs} {before} same put =
    (put_front put).1 ∙ ap (λ (l : List ℕ). xs ++ l) (drop_of_length-le before {i = length xs} (omega arith)) ∙ append-nil xs

-- a loop that puts `all` from a place on: what was put so far, and what is left
pub record Putting (all before : List ℕ) (at : ℕ) (left after : List ℕ) (here : ℕ) : Type 0 where
  pub done : List ℕ
  pub put : Put done before at after here
  pub rest : done ++ left ≡ all

-- at first all is left
pub putting_start : (all before : List ℕ) (at : ℕ) → at ≤ length before → Putting all before at all before at
putting_start all before at room = record { done = []; put = put_nothing before at room; rest = refl }

module _ {all before : List ℕ} {at : ℕ} (xs left : List ℕ) {after : List ℕ} {here : ℕ} (so : Putting all before at (xs ++ left) after here) where
  -- there is room for what comes next, if there was for all
  pub putting_room : at + length all ≤ length before → here + length xs ≤ length after
  putting_room room =
      room_more so.put xs
      (room_front (so.done ++ xs) left before at
      (subst (λ (l : List ℕ). at + length l ≤ length before) (sym so.rest ∙ sym (append_assoc so.done xs left)) room))

  -- what is put next is no longer left
  pub putting_next : {later : List ℕ} {there : ℕ} → Put xs after here later there → Putting all before at left later there
  putting_next next = record {
    done = so.done ++ xs;
    put = put_more so.put next;
    rest = append_assoc so.done xs left ∙ so.rest;
  }

-- where nothing is left, all was put
pub putting_end : {all before : List ℕ} {at : ℕ} {after : List ℕ} {here : ℕ} → Putting all before at [] after here → Put all before at after here
putting_end {all} {before} {at} {after} {here} so =
    put_is (sym (append-nil so.done) ∙ so.rest) so.put
