-- What acceptance means, fact by fact, and that it is the layout of a frame: both ways, in either form.
-- Assumes nothing.
use mathlib.Core.Path.{◌≡◌, refl, sym, ap, ap₂, subst, ◌∙◌}
use mathlib.Core.Bool.{true, ◌&&◌}
use mathlib.Core.List.{List, [], ◌++◌, append_assoc}
use Prim.Native.Nat.{ℕ, ◌+◌, ◌-◌, ◌/◌, ◌%◌, ◌≤◌}
use native.Mathlib.Omega.{arith}
use borrow.Author.Tests.{le-leb, leb-true, eq-eqb, eqb-true}
use lib.Dec.{eqb}
use lib.ListN.{length, get_or, take, drop, length-append, length-drop, take-append-drop}
use lib.Seq.{length-take-le, take-append_seam}
use Rattle.octets.specs.Range.{within}
use Rattle.octets.proofs.Numbers.{number_of, high_is, low_is}
use Rattle.octets.proofs.Parts.{Octets, octets_from, part_is, all_is, front_is, none_is}
use Rattle.octets.proofs.Questions.{AllYes, all_yes, none_fails, answered_value}
use Rattle.octets.proofs.Refusals.{accepts}
use Rattle.octets.proofs.Ranges.{within_true}
use Rattle.octets.proofs.Tests.{both_true}
use Rattle.ethernet_decode.specs.declared.EthernetForm.{EthernetForm}
use Rattle.ethernet_decode.specs.declared.EthernetForm.TheVariants.{EtherType, Length}
use Rattle.ethernet_decode.specs.Frame.{bacnet_type, field, header_octets, unpadded}
use Rattle.ethernet_decode.specs.Decode.{destination_of, source_of, field_of, llc_right, form_questions, header_questions, decode_questions, decode_question, payload_length, header, accepted, decode, payload}
use Rattle.ethernet_decode.specs.RoundTrip.{Ends, LaidOut}
use Rattle.ethernet_decode.proofs.Questions.{numbered}

-- the octets of payload that a form counts
abbrev pub counted : EthernetForm → List ℕ → List ℕ
counted form s = take (payload_length form s) (drop 17 s)

-- the octets pass the questions of a form: the field is right, and so is what stands behind the payload
pub record Accepted (form : EthernetForm) (s : List ℕ) : Type 0 where
  pub long : 17 ≤ length s
  pub enough : 17 + payload_length form s ≤ length s
  pub right : field_of s ≡ field form (length (counted form s))
  pub ends : Ends form (length s) (drop (payload_length form s) (drop 17 s))
  pub llc : (get_or s 14 0 ≡ 0x82) × ((get_or s 15 0 ≡ 0x82) × (get_or s 16 0 ≡ 0x03))

module _ (s : List ℕ) where
  llc_octets : llc_right s ≡ true → (get_or s 14 0 ≡ 0x82) × ((get_or s 15 0 ≡ 0x82) × (get_or s 16 0 ≡ 0x03))
  unfolding llc_right
  llc_octets e =
      let first = both_true (eqb (get_or s 14 0) 0x82) (eqb (get_or s 15 0) 0x82 && eqb (get_or s 16 0) 0x03) e in
      let others = both_true (eqb (get_or s 15 0) 0x82) (eqb (get_or s 16 0) 0x03) first.1 in
      (eqb-true (get_or s 14 0) 0x82 first.0, (eqb-true (get_or s 15 0) 0x82 others.0, eqb-true (get_or s 16 0) 0x03 others.1))

  -- in form EtherType all octets behind the header are payload
  type_facts : decode_question EtherType s ≡ 0 → Accepted EtherType s
  unfolding decode_question decode_questions header_questions form_questions
  type_facts none =
      let all = all_yes (decode_questions EtherType s) (numbered EtherType s) none in
      let long : 17 ≤ length s = leb-true 17 (length s) all.0 in
      let none_left : length (drop (length s - 17) (drop 17 s)) ≡ 0
      = omega (arith, length-drop (length s - 17) (drop 17 s), length-drop 17 s) in
      record {
        long = long;
        enough = omega arith;
        right = eqb-true (field_of s) bacnet_type all.1.0;
        ends = none_is (drop (length s - 17) (drop 17 s)) none_left;
        llc = llc_octets all.1.1.0;
      }

  -- in form Length those that the length counts
  length_facts : decode_question Length s ≡ 0 → Accepted Length s
  unfolding decode_question decode_questions header_questions form_questions
  length_facts none =
      let all = all_yes (decode_questions Length s) (numbered Length s) none in
      let long : 17 ≤ length s = leb-true 17 (length s) all.0 in
      let range = within_true 3 1500 (field_of s) all.1.1.0 in
      let there = leb-true (field_of s) (length (drop 14 s)) all.1.1.1.0 in
      let enough : 17 + payload_length Length s ≤ length s = omega (arith, range.0, there, length-drop 14 s) in
      let size : length (counted Length s) ≡ payload_length Length s
      = length-take-le (payload_length Length s) (drop 17 s) (omega (arith, enough, length-drop 17 s)) in
      record {
        long = long;
        enough = enough;
        right = omega (arith, range.0, size, there, length-drop 14 s);
        ends = omega (arith, leb-true (length s) 1514 all.1.0);
        llc = llc_octets all.1.1.1.1.0;
      }

  pub facts : (form : EthernetForm) → decode_question form s ≡ 0 → Accepted form s
  facts EtherType = type_facts
  facts Length = length_facts

  -- a length counts the LLC header at least
  pub counts_llc : {form : EthernetForm} → form ≡ Length → decode_question form s ≡ 0 → 3 ≤ field_of s
  counts_llc named none = omega (arith, (length_facts (subst (λ (f : EthernetForm). decode_question f s ≡ 0) named none)).right)

  -- what is accepted is a frame without padding, and what stands behind it
  pub laid_out : (form : EthernetForm) → Octets s → Accepted form s
      → s ≡ unpadded form (destination_of s) (source_of s) (counted form s) ++ drop (payload_length form s) (drop 17 s)
  unfolding unpadded field_of
  laid_out form octets a =
      let n : ℕ = payload_length form s in
      let high : field form (length (counted form s)) / 256 ≡ get_or s 12 0
      = ap (λ (k : ℕ). k / 256) (sym a.right) ∙ high_is (get_or s 12 0) (get_or s 13 0) (octets 13) in
      let low : field form (length (counted form s)) % 256 ≡ get_or s 13 0
      = ap (λ (k : ℕ). k % 256) (sym a.right) ∙ low_is (get_or s 12 0) (get_or s 13 0) (octets 13) in
      let header : octets_from 0 17 s ≡ header_octets (field form (length (counted form s))) (destination_of s) (source_of s)
      = rw (high, low, a.llc.0, a.llc.1.0, a.llc.1.1, part_is 0 6 s (omega (arith, a.long)), part_is 6 6 s (omega (arith, a.long))) in
      front_is 17 s a.long
      ∙ ap₂ (λ (x y : List ℕ). x ++ y) header (sym (take-append-drop n (drop 17 s)))
      ∙ sym (append_assoc (header_octets (field form (length (counted form s))) (destination_of s) (source_of s)) (counted form s) (drop n (drop 17 s)))

-- a frame of six and six octets of address and any payload, and what stands behind it
module _ (d e body behind : List ℕ) where
  abbrev listed : EthernetForm → List ℕ
  listed form = unpadded form (octets_from 0 6 d) (octets_from 0 6 e) body ++ behind

  field_listed : (form : EthernetForm) → field_of (listed form) ≡ field form (length body)
  unfolding unpadded field_of
  field_listed form = number_of (field form (length body))

  size_listed : (form : EthernetForm) → length (listed form) ≡ 17 + (length body + length behind)
  unfolding unpadded
  size_listed form = omega (arith, length-append body behind)

  -- so many octets of payload are counted
  length_listed : (form : EthernetForm) → Ends form (length (listed form)) behind → payload_length form (listed form) ≡ length body
  length_listed EtherType ends = omega (arith, size_listed EtherType, ap length ends)
  length_listed Length ends = omega (arith, field_listed Length)

  llc_listed : (form : EthernetForm) → llc_right (listed form) ≡ true
  unfolding unpadded llc_right
  llc_listed form = refl

  -- they pass the questions
  all_listed : (form : EthernetForm) → Ends form (length (listed form)) behind → AllYes (decode_questions form (listed form))
  unfolding decode_questions header_questions form_questions within
  all_listed EtherType ends = (
    le-leb 17 (length (listed EtherType)) (omega (arith, size_listed EtherType)),
    (eq-eqb (field_of (listed EtherType)) bacnet_type (field_listed EtherType), (llc_listed EtherType, tt)),
  )
  all_listed Length ends =
      let s : List ℕ = listed Length in
      let size = size_listed Length in
      let counts : field_of s ≡ 3 + length body = field_listed Length in
      let range : within 3 1500 (field_of s) ≡ true
      = rw (le-leb 3 (field_of s) (omega arith), le-leb (field_of s) 1500 (omega arith)) in (
        le-leb 17 (length s) (omega arith),
        (le-leb (length s) 1514 ends, (range, (le-leb (field_of s) (length (drop 14 s)) (omega (arith, length-drop 14 s)), (llc_listed Length, tt)))),
      )

  none_listed : (form : EthernetForm) → Ends form (length (listed form)) behind → decode_question form (listed form) ≡ 0
  unfolding decode_question
  none_listed form ends = none_fails (decode_questions form (listed form)) (all_listed form ends)

  decode_listed : (form : EthernetForm) → Ends form (length (listed form)) behind
      → decode form (listed form) ≡ accepted (octets_from 0 6 d) (octets_from 0 6 e) (length body)
  unfolding unpadded decode
  decode_listed form ends =
      sym (accepts (header (destination_of (listed form)) (source_of (listed form)) (payload_length form (listed form))) (none_listed form ends))
      ∙ ap (accepted (octets_from 0 6 d) (octets_from 0 6 e)) (length_listed form ends)

  payload_listed : (form : EthernetForm) → Ends form (length (listed form)) behind → payload form (listed form) ≡ body
  unfolding unpadded payload
  payload_listed form ends =
      answered_value (λ _. []) (counted form (listed form)) (none_listed form ends)
      ∙ ap (λ (k : ℕ). take k (body ++ behind)) (length_listed form ends)
      ∙ take-append_seam body behind

-- octets that are laid out are read so
module _ (form : EthernetForm) (s d e body : List ℕ) (laid : LaidOut form s d e body) where
  listed_is : s ≡ listed d e body laid.behind form
  listed_is =
      laid.octets
      ∙ ap₂ (λ (a b : List ℕ). unpadded form a b body ++ laid.behind) (all_is 6 d laid.destination_size) (all_is 6 e laid.source_size)

  ends_listed : Ends form (length (listed d e body laid.behind form)) laid.behind
  ends_listed = subst (λ (l : List ℕ). Ends form (length l) laid.behind) listed_is laid.ends

  pub decode_back : decode form s ≡ accepted d e (length body)
  decode_back =
      ap (decode form) listed_is
      ∙ decode_listed d e body laid.behind form ends_listed
      ∙ sym (ap₂ (λ (a b : List ℕ). accepted a b (length body)) (all_is 6 d laid.destination_size) (all_is 6 e laid.source_size))

  pub payload_back_lem : payload form s ≡ body
  payload_back_lem = ap (payload form) listed_is ∙ payload_listed d e body laid.behind form ends_listed
