-- The walk from one stretch to the next, that the stretches are the maximal ones, and that octets behind that do not pass add none.
-- Assumes nothing.
use mathlib.Core.Path.{◌≡◌, refl, sym, ap, ◌∙◌}
use mathlib.Core.Bool.{Bool, true, false, cond, not, and-true, and-false}
use mathlib.Core.List.Memᴰ
use mathlib.Core.List.{List, [], ◌∷◌, ◌++◌, Memᴰ}
use mathlib.Core.Logic.{⊎_elim}
use Prim.Native.Nat.{ℕ, zero, suc, ◌+◌, ◌-◌, ◌≤◌, ◌<◌}
use native.Mathlib.Decide.{dec_le}
use native.Mathlib.Nat.{add-zero}
use native.Mathlib.Omega.{arith}
use borrow.Author.Tests.{eqb-true, eqb-false, not-true}
use lib.Dec.{eqb}
use lib.ListN.{length, get_or, drop, length-drop, length-append, get_or-append}
use lib.Seq.{get_or-drop, get_or-append-add, drop-append-le}
use Rattle.octets.proofs.Tests.{both_true}
use Rattle.runs.specs.Front.{front}
use Rattle.runs.proofs.Front.{front_le, front_all, front_stops, front_turn, front_is}
use Rattle.patterns.specs.Stretches.{Stretch, stretch, before, starts, stretch_at, stretches_from, stretches, Maximal}

module _ (p : ℕ → Bool) (s : List ℕ) where
  -- the stretches that start at place i or later
  abbrev pub stretches_on : ℕ → List Stretch
  stretches_on i = stretches_from p s i (length s - i)

  pub on_end : (i : ℕ) → length s ≤ i → stretches_on i ≡ []
  unfolding stretches_from
  on_end i h = let z : length s - i ≡ 0 = omega arith in rw z

  on_step : (i : ℕ) → i < length s → stretches_on i ≡ stretch_at p s i ++ stretches_on (suc i)
  unfolding stretches_from
  on_step i h = let z : length s - i ≡ suc (length s - suc i) = omega arith in rw z

  -- none starts where the octet does not pass, or where the one before it does
  other_at : (i : ℕ) → p (get_or s i 0) ≡ false → stretch_at p s i ≡ []
  unfolding stretch_at starts
  other_at i e = rw e

  inside_at : (i : ℕ) → p (get_or s i 0) ≡ true → stretch_at p s (suc i) ≡ []
  unfolding stretch_at starts before
  inside_at i e = rw (e, and-false (p (get_or s (suc i) 0)))

  -- where the one before it does not, one starts if the octet passes
  free_at : (i : ℕ) → before p s i ≡ false → stretch_at p s i ≡ cond (p (get_or s i 0)) (stretch i (front p (drop i s)) ∷ []) []
  unfolding stretch_at starts
  free_at i e = rw (e, and-true (p (get_or s i 0)))

  on_same : (i j : ℕ) → i ≡ j → stretches_on i ≡ stretches_on j
  on_same i j e = rw e

  -- places where none starts
  skip : (m i : ℕ) → ((j : ℕ) → i ≤ j → j < i + m → stretch_at p s j ≡ []) → stretches_on i ≡ stretches_on (i + m)
  skip zero i none = on_same i (i + 0) (omega arith)
  skip (suc m) i none = by (dec_le (length s) i) (skip m (suc i) (λ j a b. none j (omega arith) (omega arith)))
    where
      by : Dec (length s ≤ i) → stretches_on (suc i) ≡ stretches_on (suc i + m) → stretches_on i ≡ stretches_on (i + suc m)
      by (yes h) more = on_end i h ∙ sym (on_end (i + suc m) (omega arith))
      by (no h) more =
          on_step i (omega arith) ∙ rw (none i (omega arith) (omega arith)) (more ∙ on_same (suc i + m) (i + suc m) (omega arith))

  -- at place i, none reaching there from before: the stretch at i, if one starts there, and those behind the octet that ends it
  pub on_turn : (i n : ℕ) → i < length s → before p s i ≡ false → n ≡ front p (drop i s)
      → stretches_on i ≡ cond (p (get_or s i 0)) (stretch i n ∷ []) [] ++ stretches_on (i + (n + 1))
  on_turn i n h f e =
      on_step i h ∙ rw (free_at i f, ← e)
      (ap (λ (ts : List Stretch). cond (p (get_or s i 0)) (stretch i n ∷ []) [] ++ ts) (skip n (suc i) inside ∙ on_same (suc i + n) (i + (n + 1)) (omega arith)))
    where
      inside : (j : ℕ) → suc i ≤ j → j < suc i + n → stretch_at p s j ≡ []
      inside zero a b = absurd (omega arith)
      inside (suc j) a b =
          let z : i + (j - i) ≡ j = omega arith in
          inside_at j (rw (get_or-drop i s (j - i) 0, z) at (front_all p (drop i s) (j - i) (omega arith)))

  -- behind the octet that ends a stretch none reaches there from before
  pub ended : (i n : ℕ) → n ≡ front p (drop i s) → i + (n + 1) < length s → before p s (i + (n + 1)) ≡ false
  unfolding before
  ended i n e h =
      let z : i + (n + 1) ≡ suc (i + front p (drop i s)) = omega arith in
      rw (z, ← (get_or-drop i s (front p (drop i s)) 0)) (front_stops p (drop i s) (omega (arith, length-drop i s)))

  -- the law

  -- no octet that passes stands before place i
  left_of : (i : ℕ) → before p s i ≡ false → 0 < i → p (get_or s (i - 1) 0) ≡ false
  unfolding before
  left_of zero f l = absurd (omega arith)
  left_of (suc i) f l = let z : suc i - 1 ≡ i = omega arith in rw z f

  before_of : (i : ℕ) → (0 < i → p (get_or s (i - 1) 0) ≡ false) → before p s i ≡ false
  unfolding before
  before_of zero f = refl
  before_of (suc i) f = let z : suc i - 1 ≡ i = omega arith in rw z at (f (omega arith))

  -- a stretch that starts at place i is maximal
  at_maximal : (i : ℕ) → i < length s → starts p s i ≡ true → Maximal p s i (front p (drop i s))
  unfolding starts
  at_maximal i h e =
      let b = both_true (p (get_or s i 0)) (not (before p s i)) e in
      let len = length-drop i s in
      let le = front_le p (drop i s) in
      record {
        some = omega (arith, front_turn p s i h b.0);
        within = omega arith;
        all = λ k l. rw (get_or-drop i s k 0) at (front_all p (drop i s) k l);
        left = λ l. left_of i (not-true (before p s i) b.1) l;
        right = λ l. rw (get_or-drop i s (front p (drop i s)) 0) at (front_stops p (drop i s) (omega arith));
      }

  -- a maximal stretch starts at its place and goes as far as octets pass
  maximal_at : (i n : ℕ) → Maximal p s i n → stretch_at p s i ≡ stretch i n ∷ []
  maximal_at i n m =
      let e : front p (drop i s) ≡ n
      = front_is p (drop i s) n (omega (arith, length-drop i s, m.within)) (λ k l. rw (get_or-drop i s k 0) (m.all k l))
      (λ l. rw (get_or-drop i s n 0) (m.right (omega (arith, length-drop i s)))) in
      free_at i (before_of i m.left) ∙ rw (rw (add-zero i) at (m.all 0 m.some), e)

  each_at : (i : ℕ) (t : Stretch) → i < length s → Memᴰ t (stretch_at p s i) → Maximal p s t.start t.length
  unfolding stretch_at
  each_at i t h mem = go (starts p s i) refl mem
    where
      go : (b : Bool) → starts p s i ≡ b → Memᴰ t (cond b (stretch i (front p (drop i s)) ∷ []) []) → Maximal p s t.start t.length
      go true e m = rw (Memᴰ.eq_of_singleton m) (at_maximal i h e)
      go false e m = absurd (Memᴰ.not-nil m)

  each_from : (n i : ℕ) (t : Stretch) → i + n ≤ length s → Memᴰ t (stretches_from p s i n) → Maximal p s t.start t.length
  unfolding stretches_from
  each_from zero i t h mem = absurd (Memᴰ.not-nil mem)
  each_from (suc n) i t h mem =
      ⊎_elim (λ m. each_at i t (omega arith) m) (λ m. each_from n (suc i) t (omega arith) m) (Memᴰ.append_cases (stretch_at p s i) mem)

  every_from : (n i j m : ℕ) → i ≤ j → j < i + n → Maximal p s j m → Memᴰ (stretch j m) (stretches_from p s i n)
  unfolding stretches_from
  every_from zero i j m h l max = absurd (omega arith)
  every_from (suc n) i j m h l max = go (eqb j i) refl (every_from n (suc i) j m)
    where
      go : (b : Bool) → eqb j i ≡ b → (suc i ≤ j → j < suc i + n → Maximal p s j m → Memᴰ (stretch j m) (stretches_from p s (suc i) n))
          → Memᴰ (stretch j m) (stretch_at p s i ++ stretches_from p s (suc i) n)
      go true e more = rw (← (eqb-true j i e), maximal_at j m max) (Memᴰ.head refl)
      go false e more =
          let k = eqb-false j i e in
          Memᴰ.append_right (stretch_at p s i) (more (omega arith) (omega arith) max)

  -- every one of the stretches is maximal, and every maximal one is among them
  pub each : (t : Stretch) → Memᴰ t (stretches p s) → Maximal p s t.start t.length
  unfolding stretches
  each t mem = each_from (length s) 0 t (omega arith) mem

  pub every : (i n : ℕ) → Maximal p s i n → Memᴰ (stretch i n) (stretches p s)
  unfolding stretches
  every i n m = every_from (length s) 0 i n (omega arith) (omega (arith, m.some, m.within)) m

-- octets behind others, none of which passes, add no stretch
module _ (p : ℕ → Bool) (a b : List ℕ) (none : (j : ℕ) → j < length b → p (get_or b j 0) ≡ false) where
  front_past : (x : List ℕ) → front p (x ++ b) ≡ front p x
  unfolding front
  front_past [] = front_is p b 0 (omega arith) (λ k l. absurd (omega arith)) (none 0)
  front_past (y ∷ x) = rw (front_past x)

  before_past : (i : ℕ) → i < length a → before p (a ++ b) i ≡ before p a i
  unfolding before
  before_past zero h = refl
  before_past (suc i) h = rw (get_or-append a b 0 i (omega arith))

  at_past : (i : ℕ) → i < length a → stretch_at p (a ++ b) i ≡ stretch_at p a i
  unfolding stretch_at starts
  at_past i h = rw (get_or-append a b 0 i h, before_past i h, drop-append-le i a b (omega arith), front_past (drop i a))

  on_past : (n i : ℕ) → i + n ≡ length a → stretches_on p (a ++ b) i ≡ stretches_on p a i
  on_past zero i h =
      skip p (a ++ b) (length b) i
      (λ j l m.
      let z : length a + (j - i) ≡ j = omega arith in
      other_at p (a ++ b) j (rw (← z, get_or-append-add a b (j - i) 0) (none (j - i) (omega arith))))
      ∙ on_end p (a ++ b) (i + length b) (omega (arith, length-append a b))
      ∙ sym (on_end p a i (omega arith))
  on_past (suc n) i h =
      on_step p (a ++ b) i (omega (arith, length-append a b))
      ∙ rw (at_past i (omega arith), on_past n (suc i) (omega arith)) (sym (on_step p a i (omega arith)))

  pub stretches_past : stretches_on p (a ++ b) 0 ≡ stretches_on p a 0
  stretches_past = on_past (length a) 0 (omega arith)
