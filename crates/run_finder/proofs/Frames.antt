-- An acceptable frame begins 55 FF and has at most 511 octets; a written frame is one, whatever stands behind it.
-- Assumes nothing.
use mathlib.Core.Path.{◌≡◌, refl, sym, ap, ◌∙◌}
use mathlib.Core.Bool.{true, false}
use mathlib.Core.List.{List, [], ◌∷◌, ◌++◌, map, flatten}
use Prim.Native.Nat.{ℕ, ◌≤◌}
use native.Mathlib.Omega.{arith}
use borrow.Author.Tests.{eq-eqb, ne_eqb, le-leb, leb-true}
use lib.Dec.{eqb}
use lib.ListN.{length, get_or}
use lib.Seq.{take_at}
use Rattle.octets.proofs.Numbers.{number_of}
use Rattle.octets.proofs.Parts.{Octets, octets_front, octets_behind}
use Rattle.crc.specs.declared.CheckRule.{CheckRule}
use Rattle.mstp_frame.specs.Size.{frame_size}
use Rattle.mstp_decode.specs.Frame.{encode_frame}
use Rattle.mstp_frame.proofs.Sizes.{size_most}
use Rattle.mstp_decode.proofs.Sizes.{encoded_size}
use Rattle.mstp_frame.specs.Fields.{source_of, data_length}
use Rattle.mstp_decode.specs.Decode.{decode_question}
use Rattle.mstp_decode.proofs.ReadsBack.{length_back, question_back}
use Rattle.run_search.specs.Acceptable.{acceptable, own_count, own_octets}
use Rattle.run_search.proofs.Acceptables.{acceptable_read, facts, own_length, own_header, own_octets_lem}
use Rattle.run_finder.specs.Demand.{Each, Sent, Sendable, frame_of}

-- octets in front of which an acceptable frame stands
module _ (rule : CheckRule) (s : List ℕ) (octets : Octets s) (e : acceptable rule (own_octets s) ≡ true) where
  pub own_begins : (get_or s 0 0 ≡ 0x55) × (get_or s 1 0 ≡ 0xFF)
  own_begins =
      let f = (facts rule (own_octets s) (own_octets_lem s rule octets) e).read in
      (sym (own_header s 0 (omega arith)) ∙ f.first, sym (own_header s 1 (omega arith)) ∙ f.second)

  pub own_most : own_count s ≤ 511
  own_most =
      let f = facts rule (own_octets s) (own_octets_lem s rule octets) e in
      omega (arith, size_most (data_length s), own_length s, f.short)

-- a frame that is acceptable whatever stands behind it
pub record Stands (rule : CheckRule) (f : List ℕ) : Type 0 where
  pub first : get_or f 0 0 ≡ 0x55
  pub passes : acceptable rule f ≡ true
  pub count : (s : List ℕ) → own_count (f ++ s) ≡ length f
  pub own : (s : List ℕ) → own_octets (f ++ s) ≡ f

module _ (rule : CheckRule) (x : Sent) (ok : Sendable x) (octets : Octets (frame_of rule x)) where
  source_is : eqb (source_of (frame_of rule x)) 255 ≡ false
  unfolding encode_frame
  source_is = ne_eqb x.source 255 (λ e. omega (arith, ok.source))

  written_passes : acceptable rule (frame_of rule x) ≡ true
  written_passes =
      let few : data_length (frame_of rule x) ≤ 501
      = rw (length_back rule x.frame_type x.destination x.source x.body) (leb-true (length x.body) 501 ok.few) in
      acceptable_read rule (frame_of rule x) octets
      ∙ rw (eq-eqb (decode_question rule (frame_of rule x)) 0 (question_back rule x.frame_type x.destination x.source x.body), source_is)
      (le-leb (data_length (frame_of rule x)) 501 few)

  written_count : (s : List ℕ) → own_count (frame_of rule x ++ s) ≡ length (frame_of rule x)
  unfolding encode_frame data_length
  written_count s =
      ap frame_size (number_of (length x.body)) ∙ sym (encoded_size rule x.frame_type x.destination x.source x.body)

  written_stands : Stands rule (frame_of rule x)
  unfolding encode_frame own_octets
  written_stands = record {
    first = refl;
    passes = written_passes;
    count = written_count;
    own = λ s. take_at (frame_of rule x) s (own_count (frame_of rule x ++ s)) (sym (written_count s));
  }

pub all_stand : (rule : CheckRule) (xs : List Sent) → Each Sendable xs → Octets (flatten (map (frame_of rule) xs))
    → Each (Stands rule) (map (frame_of rule) xs)
unfolding flatten
all_stand rule [] ok octets = tt
all_stand rule (x ∷ xs) ok octets =
    let behind = flatten (map (frame_of rule) xs) in (
      written_stands rule x ok.0 (octets_front (frame_of rule x) behind octets),
      all_stand rule xs ok.1 (octets_behind (frame_of rule x) behind octets),
    )
