-- Which question of a form fails first.
-- Assumes nothing.
use mathlib.Core.Path.{◌≡◌, refl, sym, ap, ◌∙◌}
use mathlib.Core.Logic.{◌⊎◌, inl, inr}
use mathlib.Core.Bool.{Bool, true, false, not, and-true, and-false}
use mathlib.Core.List.{List, [], ◌++◌}
use Prim.Native.Nat.{ℕ, ◌-◌, ◌≤◌, ◌<◌}
use native.Mathlib.Omega.{arith}
use borrow.Author.Tests.{le-leb, lt-leb, eq-eqb, ne_eqb}
use lib.Dec.{leb, eqb}
use lib.Pointwise.{pointwise}
use lib.ListN.{length, take, drop, length-drop}
use Rattle.std.specs.Prelude.{Result, Ok}
use Rattle.octets.specs.Question.{Question, first_no}
use Rattle.octets.specs.Range.{within}
use Rattle.octets.specs.Refusal.{refused, result_of}
use Rattle.octets.specs.declared.refusal.Refusal.{Refusal}
use Rattle.octets.proofs.Parts.{part_is}
use Rattle.octets.proofs.Questions.{Numbered, fails_before, passes_before}
use Rattle.octets.proofs.Refusals.{passes, fails, ends}
use Rattle.ethernet_decode.specs.declared.EthernetForm.{EthernetForm}
use Rattle.ethernet_decode.specs.declared.EthernetForm.TheVariants.{EtherType, Length}
use Rattle.ethernet_decode.specs.Frame.{bacnet_type, llc_header}
use Rattle.ethernet_decode.specs.Decode.{field_of, llc_right, form_questions, header_questions, decode_questions, payload_length}

-- of two lists, the first decides where one of its questions fails, else the second
module _ {A : Type 0} (value : A) (first second : List Question) {r : Result A Refusal} where
  pub first_refuses : (first_no first ≡ 0 → ⊥) → r ≡ result_of (first_no first) value → r ≡ result_of (first_no (first ++ second)) value
  first_refuses fails e = e ∙ ap (λ (q : ℕ). result_of q value) (fails_before first second fails)

  pub second_answers : Numbered first → first_no first ≡ 0 → r ≡ result_of (first_no second) value → r ≡ result_of (first_no (first ++ second)) value
  second_answers numbered none e = e ∙ ap (λ (q : ℕ). result_of q value) (passes_before first second numbered none)

-- a number that is not from 3 to 1500
outside : (n : ℕ) → (n < 3) ⊎ ((3 ≤ n) × (1500 < n)) → within 3 1500 n ≡ false
unfolding within
outside n (inl small) = rw (lt-leb 3 n small)
outside n (inr large) = rw (lt-leb n 1500 large.1) (and-false (leb 3 n))

-- what a form's questions answer
abbrev Asked : EthernetForm → List ℕ → Result ℕ Refusal → Type 0
Asked form s r = r ≡ result_of (first_no (form_questions form s)) (payload_length form s)

module _ {form : EthernetForm} (s : List ℕ) {n : ℕ} (is : n ≡ field_of s) where
  -- in form EtherType
  module _ (named : form ≡ EtherType) where
    pub fails_22 : (n ≡ bacnet_type → ⊥) → Asked form s (refused 22)
    unfolding form_questions
    fails_22 other = rw named (fails _ 22 [] refl (rw (← is) (ne_eqb n bacnet_type other)))

    pub passes_22 : n ≡ bacnet_type → Asked form s (Ok (length s - 17))
    unfolding form_questions
    passes_22 same = rw named (passes _ 22 [] (rw (← is) (eq-eqb n bacnet_type same)) (ends _))

  -- in form Length
  module _ (named : form ≡ Length) where
    pub fails_24 : 1514 < length s → Asked form s (refused 24)
    unfolding form_questions
    fails_24 many = rw named (fails _ 24 _ refl (lt-leb (length s) 1514 many))

    module _ (few : length s ≤ 1514) where
      pub fails_61 : (n < 3) ⊎ ((3 ≤ n) × (1500 < n)) → Asked form s (refused 61)
      unfolding form_questions
      fails_61 out =
          rw named (passes _ 24 _ (le-leb (length s) 1514 few) (fails _ 61 _ refl (rw (← is) (outside n out))))

      module _ (least : 3 ≤ n) (most : n ≤ 1500) where
        in_range : within 3 1500 (field_of s) ≡ true
        unfolding within
        in_range = rw (← is, le-leb 3 n least, le-leb n 1500 most)

        pub passes_length : n ≤ length s - 14 → Asked form s (Ok (n - 3))
        unfolding form_questions
        passes_length there =
            rw named
            (passes _ 24 _ (le-leb (length s) 1514 few)
            (passes _ 61 _ in_range
            (passes _ 62 _ (le-leb (field_of s) (length (drop 14 s)) (omega (arith, length-drop 14 s)))
            (ap (λ (k : ℕ). Ok (k - 3)) is ∙ ends _))))

        pub fails_62 : length s - 14 < n → Asked form s (refused 62)
        unfolding form_questions
        fails_62 less =
            rw named
            (passes _ 24 _ (le-leb (length s) 1514 few)
            (passes _ 61 _ in_range (fails _ 62 _ refl (lt-leb (field_of s) (length (drop 14 s)) (omega (arith, length-drop 14 s))))))

-- the octets compared with the LLC header
pub llc_read : (s : List ℕ) → 17 ≤ length s → {differ : Bool} → not (pointwise eqb (take 3 (drop 14 s)) llc_header) ≡ differ → llc_right s ≡ not differ
unfolding llc_right
llc_read s long {differ} e = sym same ∙ by (pointwise eqb (take 3 (drop 14 s)) llc_header) e
  where
    same : pointwise eqb (take 3 (drop 14 s)) llc_header ≡ llc_right s
    same = rw (part_is 14 3 s long, and-true)

    by : (equal : Bool) → not equal ≡ differ → equal ≡ not differ
    by true e = ap not e
    by false e = ap not e

-- no question has the number 0
pub numbered_form : (form : EthernetForm) (s : List ℕ) → Numbered (form_questions form s)
unfolding form_questions
numbered_form EtherType s = tt
numbered_form Length s = tt

pub numbered : (form : EthernetForm) (s : List ℕ) → Numbered (decode_questions form s)
unfolding decode_questions header_questions form_questions
numbered EtherType s = tt
numbered Length s = tt
