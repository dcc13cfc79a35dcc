-- The writer's returns: what it answers and leaves, with the round trips that it promises.
-- Assumes nothing.
use mathlib.Core.Path.{◌≡◌, refl, sym, ap, ◌∙◌}
use mathlib.Core.List.{List, ◌++◌}
use Prim.Native.Nat.{ℕ, ◌+◌, ◌-◌, ◌≤◌, ◌<◌}
use native.Mathlib.Omega.{arith}
use borrow.Rule.Slice.PartMut.{put_mid}
use lib.ListN.{length, take, drop, replicate, length-drop, length-replicate}
use lib.Seq.{length-take-le}
use Rattle.std.specs.Prelude.{Result, Ok}
use Rattle.octets.specs.Output.{at_front}
use Rattle.octets.specs.Refusal.{refused}
use Rattle.octets.specs.declared.refusal.Refusal.{Refusal}
use Rattle.octets.proofs.Outputs.{Wrote, refuses, writes, length_front}
use Rattle.ethernet_decode.specs.declared.EthernetForm.{EthernetForm}
use Rattle.ethernet_decode.specs.declared.EthernetForm.TheVariants.{EtherType, Length}
use Rattle.ethernet_decode.specs.Frame.{field, header_octets, unpadded}
use Rattle.ethernet_encode.specs.Frame.{padding, ethernet_frame}
use Rattle.ethernet_encode.specs.Encode.{encode_question, encode_answer, encode_output}
use Rattle.ethernet_encode.specs.RoundTrip.{payload_back, Rewritable, ReadsBack, WritesAnew, Edge}
use Rattle.ethernet_encode.proofs.Outputs.{front_mid, header_size, unpadded_size}
use Rattle.ethernet_encode.proofs.Questions.{fails_24, fails_25, passes_both}
use Rattle.ethernet_encode.proofs.Anew.{frame_is, frame_size_is, written, writes_anew, edge}

module _ (form : EthernetForm) (d e body out : List ℕ) (hd : length d ≡ 6) (he : length e ≡ 6) where
  abbrev frame : List ℕ
  frame = ethernet_frame form d e body

  abbrev header : List ℕ
  header = header_octets (field form (length body)) d e

  size_of_frame : length frame ≡ 17 + length body + (60 - (17 + length body))
  size_of_frame = frame_size_is d e hd he form body

  abbrev Back : List ℕ → Type 0
  Back = Rewritable form d e (payload_back form body) out

  abbrev Encoded : Result ℕ Refusal → List ℕ → Type 0
  Encoded answer l =
      (answer ≡ encode_answer form d e body out)
      × ((l ≡ encode_output form d e body out)
      × (ReadsBack form d e body out l answer
      × (WritesAnew form d e body out l answer × ((Edge EtherType 43 × Edge EtherType 1497) × (Edge Length 0 × Edge Length 1497)))))

  -- an answer and an output that are the definition's, and read back, promise the rest
  promised : {answer : Result ℕ Refusal} {l : List ℕ} → Wrote Back frame out (encode_question form d e body out) answer l → Encoded answer l
  unfolding encode_answer encode_output
  promised wrote = (
    wrote.0,
    (
      wrote.1.0,
      (
        wrote.1.1,
        (
          writes_anew form d e body out wrote.0 wrote.1.0,
          (
            (edge EtherType 43 (omega arith) refl, edge EtherType 1497 (omega arith) refl),
            (edge Length 0 (omega arith) (omega arith), edge Length 1497 (omega arith) (omega arith)),
          ),
        ),
      ),
    ),
  )

  refuses_by : {q : ℕ} → q ≡ encode_question form d e body out → (q ≡ 0 → ⊥) → Encoded (refused q) out
  refuses_by asked fails = promised (refuses Back frame out asked fails)

  pub too_long : 1497 < length body → Encoded (refused 24) out
  unfolding encode_question
  too_long h = refuses_by (fails_24 frame out (omega (arith, size_of_frame))) (λ z. omega arith)

  module _ (few : length body ≤ 1497) {size : ℕ} (sized : size ≡ 17 + length body + (60 - (17 + length body))) where
    size_is : length frame ≡ size
    size_is = size_of_frame ∙ sym sized

    at_most : length frame ≤ 1514
    at_most = omega (arith, size_of_frame)

    pub no_room : length out < size → Encoded (refused 25) out
    unfolding encode_question
    no_room h = refuses_by (fails_25 frame out at_most (rw size_is h)) (λ z. omega arith)

    -- a header in front, the payload behind it, and zeros as long as what stood behind both, are the frame in front, which reads back
    module _ (room : size ≤ length out) {n : ℕ} (named : n ≡ field form (length body))
        {l p : List ℕ} (first : l ≡ at_front (header_octets n d e) out) (second : p ≡ body) where
      abbrev part : List ℕ
      part = put_mid 17 (17 + length body - 17) l p

      fits : length frame ≤ length out
      fits = rw size_is room

      many : length (header ++ body) ≡ 17 + length body
      unfolding unpadded
      many = unpadded_size d e hd he form body

      two : part ≡ at_front (header ++ body) out
      two =
          let size : length body ≡ 17 + length body - 17 = omega arith in
          front_mid header body out 17 (17 + length body - 17) (first ∙ ap (λ (k : ℕ). at_front (header_octets k d e) out) named)
          (header_size d e hd he (field form (length body))) size second

      pub all_written : {z : List ℕ} → z ≡ replicate (length (take (size - (17 + length body)) (drop (17 + length body) part))) 0
          → Encoded (Ok size) (put_mid (17 + length body) (size - (17 + length body)) part z)
      unfolding encode_question unpadded
      all_written {z} zeros =
          let long : length part ≡ length out = ap length two ∙ length_front (header ++ body) out (omega (arith, many, sized)) in
          let count : length (take (size - (17 + length body)) (drop (17 + length body) part)) ≡ size - (17 + length body)
          = length-take-le (size - (17 + length body)) (drop (17 + length body) part) (omega (arith, length-drop (17 + length body) part)) in
          let same : size - (17 + length body) ≡ 60 - (17 + length body) = omega (arith, sized) in
          let padded = zeros ∙ ap (λ (k : ℕ). replicate k 0) (count ∙ same) in
          let front : put_mid (17 + length body) (size - (17 + length body)) part z ≡ at_front frame out
          = front_mid (header ++ body) (padding (17 + length body)) out (17 + length body) (size - (17 + length body)) two many
          (length-replicate (60 - (17 + length body)) 0 ∙ sym same) padded
          ∙ ap (λ (f : List ℕ). at_front f out) (sym (frame_is d e hd he form body)) in
          promised (writes Back frame out (written d e hd he form body out few fits) (passes_both frame out at_most fits) (sym size_is) front)
