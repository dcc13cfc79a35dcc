-- The octet count of a frame.
-- Assumes nothing.
use mathlib.Core.Path.{◌≡◌, refl}
use mathlib.Core.List.{List, [], ◌∷◌}
use Prim.Native.Nat.{ℕ, ◌+◌}
use native.Mathlib.Omega.{arith}
use lib.ListN.{length, length-append}
use Rattle.crc.specs.declared.CheckRule.{CheckRule}
use Rattle.mstp_frame.specs.declared.MstpFrameType.{MstpFrameType}
use Rattle.mstp_frame.specs.Size.{frame_size}
use Rattle.mstp_frame.proofs.Sizes.{size_some}
use Rattle.mstp_decode.specs.Frame.{check_octets, data_octets, encode_frame}

-- the frame behind its header
pub data_size : (rule : CheckRule) (body : List ℕ) → 8 + length (data_octets rule body) ≡ frame_size (length body)
unfolding frame_size
data_size rule [] = refl
data_size rule (b ∷ body) =
    omega (arith, size_some (length (b ∷ body)) (λ e. omega arith), length-append (b ∷ body) (check_octets rule (b ∷ body)))

-- the whole frame
pub encoded_size : (rule : CheckRule) (t : MstpFrameType) (destination source : ℕ) (body : List ℕ)
    → length (encode_frame rule t destination source body) ≡ frame_size (length body)
unfolding encode_frame
encoded_size rule t destination source body = omega (arith, data_size rule body)
