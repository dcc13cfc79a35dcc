-- Parts stored one behind another, and the sizes of a frame's parts.
-- Assumes nothing.
use mathlib.Core.Path.{◌≡◌, ap, ◌∙◌}
use mathlib.Core.List.{List, ◌++◌}
use Prim.Native.Nat.{ℕ, ◌+◌, ◌-◌}
use native.Mathlib.Omega.{arith}
use borrow.Rule.Slice.PartMut.{put_mid}
use lib.ListN.{length, drop, length-append, length-replicate}
use lib.Seq.{take_at, drop_at}
use Rattle.octets.specs.Output.{at_front}
use Rattle.octets.proofs.Outputs.{front_more}
use Rattle.ethernet_decode.specs.declared.EthernetForm.{EthernetForm}
use Rattle.ethernet_decode.specs.Frame.{field, header_octets, unpadded}
use Rattle.ethernet_encode.specs.Frame.{padding, padded_payload}

-- a list stored right behind a list at the front
pub front_mid : (xs ys out : List ℕ) (n k : ℕ) {l p : List ℕ} → l ≡ at_front xs out → length xs ≡ n → length ys ≡ k → p ≡ ys
    → put_mid n k l p ≡ at_front (xs ++ ys) out
unfolding at_front
front_mid xs ys out n k el en ek ep =
    rw (el, ep, take_at xs (drop (length xs) out) n en, drop_at xs (drop (length xs) out) n en, ← ek) (front_more xs ys out)

-- the size of a header, and of a frame without padding
module _ (d e : List ℕ) (hd : length d ≡ 6) (he : length e ≡ 6) where
  pub header_size : (n : ℕ) → length (header_octets n d e) ≡ 17
  header_size n = simp length-append (omega arith)

  pub unpadded_size : (form : EthernetForm) (body : List ℕ) → length (unpadded form d e body) ≡ 17 + length body
  unfolding unpadded
  unpadded_size form body =
      length-append (header_octets (field form (length body)) d e) body ∙ ap (λ (k : ℕ). k + length body) (header_size (field form (length body)))

-- the size of a payload with its padding
pub padded_size : (body : List ℕ) → length (padded_payload body) ≡ length body + (60 - (17 + length body))
unfolding padded_payload
padded_size body =
    length-append body (padding (17 + length body))
    ∙ ap (λ (k : ℕ). length body + k) (length-replicate (60 - (17 + length body)) 0)
