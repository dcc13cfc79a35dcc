-- A frame as it is written may be written anew; octets that were read, written anew, are themselves.
-- Assumes nothing.
use mathlib.Core.Path.{◌≡◌, refl, sym, ap, subst, ◌∙◌}
use mathlib.Core.List.{List, [], ◌++◌, append-nil, append_assoc}
use Prim.Native.Nat.{ℕ, zero, suc, ◌+◌, ◌-◌, ◌≤◌, ◌<◌}
use native.Mathlib.Omega.{arith}
use lib.ListN.{length, take, drop, replicate, length-append, length-replicate}
use lib.Seq.{drop_at}
use Rattle.octets.specs.Number.{high_first}
use Rattle.octets.specs.Output.{at_front, write_answer, write_output}
use Rattle.octets.specs.Question.{first_no}
use Rattle.std.specs.Prelude.{Result, Ok}
use Rattle.octets.specs.declared.refusal.Refusal.{Refusal}
use Rattle.octets.proofs.Outputs.{take_front}
use Rattle.octets.proofs.Parts.{all_octets, all_octets_lem, octets_join, octets_repeat}
use Rattle.octets.proofs.Questions.{answered_value}
use Rattle.octets.proofs.Refusals.{accepts}
use Rattle.ethernet_decode.specs.declared.EthernetForm.{EthernetForm}
use Rattle.ethernet_decode.specs.declared.EthernetForm.TheVariants.{EtherType, Length}
use Rattle.ethernet_decode.specs.Frame.{llc_header, field, header_octets, unpadded}
use Rattle.ethernet_decode.specs.RoundTrip.{Ends, LaidOut}
use Rattle.ethernet_decode.proofs.Frames.{decode_back, payload_back_lem}
use Rattle.ethernet_decode.proofs.Answers.{read_is}
use Rattle.ethernet_encode.specs.Frame.{padding, ethernet_frame, padded_payload}
use Rattle.ethernet_encode.specs.Encode.{encode_questions, encode_question, encode_answer, encode_output}
use Rattle.ethernet_encode.specs.RoundTrip.{Octets, payload_back, Rewritable, WritesAnew, Edge}
use Rattle.ethernet_encode.proofs.Outputs.{unpadded_size, padded_size}
use Rattle.ethernet_encode.proofs.Questions.{passes_both}

-- a frame, of two addresses of six octets
module _ (d e : List ℕ) (hd : length d ≡ 6) (he : length e ≡ 6) where
  -- is one without padding, and the zeros behind it
  pub frame_is : (form : EthernetForm) (body : List ℕ) → ethernet_frame form d e body ≡ unpadded form d e body ++ padding (17 + length body)
  unfolding ethernet_frame
  frame_is form body = ap (λ (k : ℕ). unpadded form d e body ++ padding k) (unpadded_size d e hd he form body)

  pub frame_size_is : (form : EthernetForm) (body : List ℕ) → length (ethernet_frame form d e body) ≡ 17 + length body + (60 - (17 + length body))
  frame_size_is form body =
      ap length (frame_is form body)
      ∙ length-append (unpadded form d e body) (padding (17 + length body))
      ∙ omega (arith, unpadded_size d e hd he form body, length-replicate {A = ℕ} (60 - (17 + length body)) 0)

  -- what stands behind a frame without padding
  behind_is : (form : EthernetForm) (body behind : List ℕ) → drop (17 + length body) (unpadded form d e body ++ behind) ≡ behind
  behind_is form body behind = drop_at (unpadded form d e body) behind (17 + length body) (unpadded_size d e hd he form body)

  -- one whose zeros may stand behind its payload, and that passes the questions, may be written anew
  pub rewritable : (form : EthernetForm) (body out : List ℕ) → length body ≤ 1497 → length (ethernet_frame form d e body) ≤ length out
      → Ends form (length (ethernet_frame form d e body)) (padding (17 + length body))
      → Rewritable form d e body out (ethernet_frame form d e body)
  rewritable form body out few room ends =
      let s : List ℕ = ethernet_frame form d e body in
      let laid : LaidOut form s d e body
      = record { behind = padding (17 + length body); destination_size = hd; source_size = he; octets = frame_is form body; ends = ends } in
      record {
        read = decode_back form s d e body laid;
        rest = payload_back_lem form s d e body laid;
        padded = ap (drop (17 + length body)) (frame_is form body) ∙ behind_is form body (padding (17 + length body));
        asked = passes_both s out (omega (arith, frame_size_is form body)) room;
      }

  -- a payload with its padding needs none
  no_more : (body : List ℕ) → padding (17 + length (padded_payload body)) ≡ []
  no_more body =
      let none : 60 - (17 + length (padded_payload body)) ≡ 0 = omega (arith, padded_size body) in
      ap (λ (k : ℕ). replicate k 0) none

  -- so in form EtherType the frame of a payload is that of the payload with its padding
  padded_before : (body : List ℕ) → ethernet_frame EtherType d e body ≡ ethernet_frame EtherType d e (padded_payload body)
  unfolding unpadded padded_payload
  padded_before body =
      frame_is EtherType body
      ∙ append_assoc (header_octets (field EtherType (length body)) d e) body (padding (17 + length body))
      ∙ sym (append-nil (unpadded EtherType d e (padded_payload body)))
      ∙ ap (λ (l : List ℕ). unpadded EtherType d e (padded_payload body) ++ l) (sym (no_more body))
      ∙ sym (frame_is EtherType (padded_payload body))

  -- what is written may be written anew
  pub written : (form : EthernetForm) (body out : List ℕ) → length body ≤ 1497 → length (ethernet_frame form d e body) ≤ length out
      → Rewritable form d e (payload_back form body) out (ethernet_frame form d e body)
  written EtherType body out few room =
      let same = padded_before body in
      rw same
      (rewritable EtherType (padded_payload body) out (omega (arith, padded_size body)) (rw (← same) room) (no_more body))
  written Length body out few room = rewritable Length body out few room (omega (arith, frame_size_is Length body))

module _ (form : EthernetForm) (d e body out : List ℕ) where
  -- octets that may be written anew are the frame that is written
  same_frame : (s : List ℕ) → Octets s → Rewritable form d e body out s → ethernet_frame form d e body ≡ s
  same_frame s octets r =
      let laid : LaidOut form s d e body = subst (LaidOut form s d e) r.rest (read_is form s octets r.read) in
      let behind : laid.behind ≡ padding (17 + length body)
      = sym (ap (drop (17 + length body)) laid.octets ∙ behind_is d e laid.destination_size laid.source_size form body laid.behind) ∙ r.padded in
      frame_is d e laid.destination_size laid.source_size form body
      ∙ ap (λ (l : List ℕ). unpadded form d e body ++ l) (sym behind)
      ∙ sym laid.octets

  pub writes_anew : {answer : Result ℕ Refusal} {l : List ℕ} → answer ≡ encode_answer form d e body out → l ≡ encode_output form d e body out
      → WritesAnew form d e body out l answer
  unfolding encode_answer encode_output encode_question write_answer write_output
  writes_anew told left s octets r =
      let same = same_frame s octets r in
      let none : encode_question form d e body out ≡ 0 = ap (λ (f : List ℕ). first_no (encode_questions f out)) same ∙ r.asked in (
        told ∙ sym (accepts (length (ethernet_frame form d e body)) none) ∙ ap (λ (f : List ℕ). Ok (length f)) same,
        ap (λ (l : List ℕ). take (length s) l)
            (left ∙ answered_value (λ _. out) (at_front (ethernet_frame form d e body) out) none ∙ ap (λ (f : List ℕ). at_front f out) same)
            ∙ take_front s out,
      )

-- two octets make a number below 65536
two_octets : (n : ℕ) → n < 65536 → Octets (high_first n)
two_octets n h zero = omega arith
two_octets n h (suc zero) = omega arith
two_octets n h (suc (suc i)) = omega arith

field_fits : (form : EthernetForm) (n : ℕ) → n ≤ 1497 → field form n < 65536
field_fits EtherType n most = omega arith
field_fits Length n most = omega arith

-- there are such octets with each payload whose zeros may stand behind it
pub edge : (form : EthernetForm) (n : ℕ) → n ≤ 1497 → Ends form (17 + n + (60 - (17 + n))) (padding (17 + n)) → Edge form n
unfolding ethernet_frame unpadded all_octets
edge form n most ends =
    let d : List ℕ = replicate 6 0xFF in
    let e : List ℕ = replicate 6 0x00 in
    let body : List ℕ = replicate n 0xFF in
    let s : List ℕ = ethernet_frame form d e body in
    let out : List ℕ = replicate (length s) 0x00 in
    let many : length body ≡ n = length-replicate n 0xFF in
    let size : length s ≡ 17 + n + (60 - (17 + n)) = frame_size_is d e refl refl form body ∙ omega (arith, many) in
    let header : Octets (header_octets (field form (length body)) d e)
    = octets_join d (e ++ (high_first (field form (length body)) ++ llc_header)) (all_octets_lem d refl)
    (octets_join e (high_first (field form (length body)) ++ llc_header) (all_octets_lem e refl)
    (octets_join (high_first (field form (length body))) llc_header (two_octets (field form (length body)) (field_fits form (length body) (omega (arith, many)))) (all_octets_lem llc_header refl))) in
    let are : Octets s
    = octets_join (unpadded form d e body) (padding (length (unpadded form d e body)))
    (octets_join (header_octets (field form (length body)) d e) body header (octets_repeat n 0xFF (omega arith)))
    (octets_repeat (60 - length (unpadded form d e body)) 0x00 (omega arith)) in
    let may : Rewritable form d e body out s
    = rewritable d e refl refl form body out (omega (arith, many)) (omega (arith, length-replicate {A = ℕ} (length s) 0x00)) (rw (size, many) ends) in
    let anew = writes_anew form d e body out refl refl s are may in
    record {
      s = s;
      octets = are;
      holds = may;
      counted = anew.0;
      front = anew.1;
    }
