-- What is written is a frame of octets.
-- Assumes nothing.
use mathlib.Core.Path.{refl}
use mathlib.Core.List.{List, [], ◌∷◌}
use Prim.Native.Nat.{ℕ, zero, suc, ◌/◌, ◌^◌, ◌≤◌, ◌<◌}
use native.Mathlib.Omega.{arith}
use borrow.Author.Tests.{leb-true}
use lib.Dec.{lit<}
use lib.ListN.{length}
use Rattle.octets.proofs.Parts.{Octets, octets_join}
use Rattle.crc.specs.Check.{check}
use Rattle.crc.specs.Rule.{header_check, data_check}
use Rattle.crc.specs.declared.CheckRule.{CheckRule}
use Rattle.mstp_frame.specs.declared.MstpFrameType.{MstpFrameType}
use Rattle.mstp_frame.specs.FrameType.{type_number}
use Rattle.mstp_frame.proofs.FrameTypes.{type_back}
use Rattle.mstp_decode.specs.Change.{WrittenFrame}
use Rattle.mstp_decode.specs.Frame.{header_fields, header_octets, check_octets, data_octets, encode_frame}

-- each number of a list is an octet, one by one
abbrev Each : List ℕ → Type 0
Each [] = Unit {0}
Each (b ∷ s) = (b < 2 ^ 8) × Each s

each : (s : List ℕ) → Each s → Octets s
each [] h i = lit< tt
each (b ∷ s) h zero = h.0
each (b ∷ s) h (suc i) = each s h.1 i

header_check_octet : (rule : CheckRule) (s : List ℕ) → header_check rule s < 2 ^ 8
unfolding header_check check
header_check_octet rule s = omega arith

data_check_high : (rule : CheckRule) (s : List ℕ) → data_check rule s / 256 < 2 ^ 8
unfolding data_check check
data_check_high rule s = omega arith

data_octets_lem : (rule : CheckRule) (body : List ℕ) → Octets body → Octets (data_octets rule body)
data_octets_lem rule [] h = h
data_octets_lem rule (b ∷ body) h =
    let check = check_octets rule (b ∷ body) in
    octets_join (b ∷ body) check h (each check (omega arith, (data_check_high rule (b ∷ body), tt)))

pub written : (rule : CheckRule) (t : MstpFrameType) (destination source : ℕ) (body : List ℕ) → destination < 256 → source < 256
    → Octets body → length body ≤ 501 → WrittenFrame rule (encode_frame rule t destination source body)
unfolding encode_frame
written rule t destination source body hd hs octets few = record {
  frame_type = t;
  destination = destination;
  source = source;
  body = body;
  laid_out = refl;
  octets = octets_join (header_octets rule fields) (data_octets rule body) header (data_octets_lem rule body octets);
}
  where
    fields : List ℕ
    fields = header_fields t destination source (length body)

    header : Octets (header_octets rule fields)
    header =
        let known = leb-true (type_number t) 7 (type_back t).0 in
        each (header_octets rule fields)
        (lit< tt, (lit< tt, (omega arith, (hd, (hs, (omega arith, (omega arith, (header_check_octet rule fields, tt))))))))
