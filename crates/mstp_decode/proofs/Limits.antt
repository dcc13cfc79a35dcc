-- The pairs that the checks do not tell apart, by computation.
-- Assumes nothing.
use mathlib.Core.Path.{◌≡◌, refl}
use mathlib.Core.Bool.{true}
use mathlib.Core.List.{List, [], ◌∷◌}
use Prim.Native.Nat.{ℕ, ◌+◌}
use native.Mathlib.Omega.{arith}
use lib.Dec.{lit<}
use Rattle.octets.proofs.Change.{every_change}
use Rattle.octets.proofs.Parts.{all_octets, all_octets_lem}
use Rattle.crc_tables.specs.Steps.{xor_if, step, steps}
use Rattle.crc.specs.Burst.{word, Burst}
use Rattle.crc.specs.Check.{octet_step, register, check}
use Rattle.crc.specs.Rule.{header_check, data_check}
use Rattle.crc.specs.declared.CheckRule.{CheckRule}
use Rattle.crc.specs.declared.CheckRule.TheVariants.{AnnexG, House}
use Rattle.mstp_frame.specs.declared.MstpFrameType.{MstpFrameType}
use Rattle.mstp_frame.specs.declared.MstpFrameType.TheVariants.{Token, BacnetDataNotExpectingReply}
use Rattle.mstp_decode.specs.Change.{WrittenFrame, header_bits, data_bits, checked_header, checked_data}
use Rattle.mstp_decode.specs.Frame.{encode_frame}
use Rattle.mstp_decode.specs.Limits.{BothRead, token, other_token, three_data, other_data, Limits}
use Rattle.mstp_decode.specs.RoundTrip.{LaidOut}
use Rattle.mstp_decode.proofs.Example.{burst}
use Rattle.mstp_decode.proofs.Finds.{written_read}

-- two written frames
both_read : {rule : CheckRule} {bits : ℕ} {part : List ℕ → List ℕ} {one other : List ℕ} → Burst bits (part one) (part other)
    → WrittenFrame rule one → WrittenFrame rule other → BothRead rule bits part one other
both_read {rule} {bits} {part} {one} {other} burst w v = record {
  burst = burst;
  one_written = w;
  other_written = v;
  one_read = written_read rule one w;
  other_read = written_read rule other v;
}

wrote : {rule : CheckRule} {frame : List ℕ} (t : MstpFrameType) (destination source : ℕ) (body : List ℕ)
    → LaidOut rule t destination source body frame → all_octets frame ≡ true → WrittenFrame rule frame
wrote {rule} {frame} t destination source body e all = record {
  frame_type = t;
  destination = destination;
  source = source;
  body = body;
  laid_out = e;
  octets = all_octets_lem frame all;
}

tokens_written : (rule : CheckRule) → WrittenFrame rule (token rule) × WrittenFrame rule (other_token rule)
unfolding encode_frame header_check check register octet_step steps step xor_if all_octets
tokens_written AnnexG = (wrote Token 0x10 0x05 [] refl refl, wrote Token 0x13 0x04 [] refl refl)
tokens_written House = (wrote Token 0x10 0x05 [] refl refl, wrote Token 0x10 0xAE [] refl refl)

data_written : (rule : CheckRule) → WrittenFrame rule (three_data rule) × WrittenFrame rule (other_data rule)
unfolding encode_frame header_check data_check check register octet_step steps step xor_if all_octets
data_written rule = by rule
  where
    frame : {rule : CheckRule} {frame : List ℕ} (body : List ℕ) → LaidOut rule BacnetDataNotExpectingReply 0x10 0x05 body frame
        → all_octets frame ≡ true → WrittenFrame rule frame
    frame = wrote BacnetDataNotExpectingReply 0x10 0x05

    by : (rule : CheckRule) → WrittenFrame rule (three_data rule) × WrittenFrame rule (other_data rule)
    by AnnexG = (frame (0x01 ∷ 0x02 ∷ 0x03 ∷ []) refl refl, frame (0x10 ∷ 0x0A ∷ 0x02 ∷ []) refl refl)
    by House = (frame (0x01 ∷ 0x02 ∷ 0x03 ∷ []) refl refl, frame (0x02 ∷ 0x42 ∷ 0x02 ∷ []) refl refl)

-- what is XORed in: twice the constant plus 1
header_burst : (rule : CheckRule) → Burst (header_bits rule + 1) (checked_header (token rule)) (checked_header (other_token rule))
unfolding word
header_burst AnnexG = burst 0x103 8 (lit< tt) (lit< tt) (record { same_length = refl; changed = refl })
header_burst House = burst 0xAB 16 (lit< tt) (lit< tt) (record { same_length = refl; changed = refl })

body_burst : (rule : CheckRule) → Burst (data_bits + 1) (checked_data (three_data rule)) (checked_data (other_data rule))
unfolding word
body_burst AnnexG = burst 0x10811 0 (lit< tt) (lit< tt) (record { same_length = refl; changed = refl })
body_burst House = burst 0x14003 0 (lit< tt) (lit< tt) (record { same_length = refl; changed = refl })

pub limits : Limits
limits = record {
  header = λ rule. both_read (header_burst rule) (tokens_written rule).0 (tokens_written rule).1;
  body = λ rule. both_read (body_burst rule) (data_written rule).0 (data_written rule).1;
  house_octet = every_change (token House) 4 0xAE (lit< tt) (λ e. omega (arith, e));
}
