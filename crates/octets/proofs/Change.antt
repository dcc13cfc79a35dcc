-- Octets that differ in one: whatever comes of another octet stored anywhere, the other way round, and the parts that hold it.
-- Assumes nothing.
use mathlib.Core.Path.{◌≡◌, sym, ap, ◌∙◌}
use mathlib.Core.List.{List}
use Prim.Native.Nat.{ℕ, ◌+◌, ◌≤◌, ◌<◌, min}
use native.Mathlib.Decide.{dec_le}
use native.Mathlib.Omega.{arith}
use lib.ListN.{length, get_or, set, take, drop, length-take, length-drop, length-set, get_or-eq_default}
use lib.Seq.{get_or-take, get_or-drop, get_or-set_same, get_or-set_other}
use Rattle.octets.specs.Change.{DifferAt}

-- another octet stored at any place
pub every_change : (before : List ℕ) (place octet : ℕ) → place < length before → (octet ≡ get_or before place 0 → ⊥)
    → DifferAt place before (set before place octet)
every_change before place octet inside other = record {
  same_length = length-set before place octet;
  inside = inside;
  changed = λ e. other (sym (get_or-set_same before place octet 0 inside) ∙ e);
  others = λ i off. get_or-set_other before place i octet 0 off;
}

pub differ_back : {place : ℕ} {s t : List ℕ} → DifferAt place s t → DifferAt place t s
differ_back d = record {
  same_length = sym d.same_length;
  inside = omega (arith, d.same_length, d.inside);
  changed = λ e. d.changed (sym e);
  others = λ i off. sym (d.others i off);
}

-- behind the first n octets
pub differ_drop : (n i : ℕ) (s t : List ℕ) → DifferAt (n + i) s t → DifferAt i (drop n s) (drop n t)
differ_drop n i s t d = record {
  same_length = omega (arith, length-drop n s, length-drop n t, d.same_length);
  inside = omega (arith, length-drop n s, d.inside);
  changed = λ e. d.changed (sym (get_or-drop n t i 0) ∙ e ∙ get_or-drop n s i 0);
  others = λ j off. get_or-drop n t j 0 ∙ d.others (n + j) (λ e. off (omega arith)) ∙ sym (get_or-drop n s j 0);
}

-- within the first n octets
pub differ_take : (n i : ℕ) (s t : List ℕ) → i < n → DifferAt i s t → DifferAt i (take n s) (take n t)
differ_take n i s t h d = record {
  same_length = length-take n t ∙ ap (λ (m : ℕ). min n m) d.same_length ∙ sym (length-take n s);
  inside = omega (arith, length-take n s, d.inside);
  changed = λ e. d.changed (sym (get_or-take n t i 0 h) ∙ e ∙ get_or-take n s i 0 h);
  others = λ j off. by j off (dec_le n j);
}
  where
    by : (j : ℕ) → (j ≡ i → ⊥) → Dec (n ≤ j) → get_or (take n t) j 0 ≡ get_or (take n s) j 0
    by j off (yes past) =
        get_or-eq_default (take n t) 0 {n = j} (omega (arith, length-take n t))
        ∙ sym (get_or-eq_default (take n s) 0 {n = j} (omega (arith, length-take n s)))
    by j off (no before) = get_or-take n t j 0 (omega arith) ∙ d.others j off ∙ sym (get_or-take n s j 0 (omega arith))
