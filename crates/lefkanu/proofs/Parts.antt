-- The part that the numbers of a result name is the one that the call for it gives.
-- Assumes nothing.
use mathlib.Core.Path.{◌≡◌, refl, sym, ap, ◌∙◌}
use mathlib.Core.List.{List, []}
use Prim.Native.Nat.{ℕ, zero, suc, ◌-◌}
use native.Mathlib.Omega.{arith}
use lib.ListN.{length, take, drop, length-drop}
use lib.Seq.{take_all}
use Rattle.std.specs.Prelude.{Result, Ok, Err}
use Rattle.octets.specs.Question.{answered}
use Rattle.octets.specs.Refusal.{result_of, refusal_number}
use Rattle.octets.specs.Answer.{answer_number, made_of}
use Rattle.octets.specs.declared.refusal.Refusal.{Refusal}
use Rattle.crc.specs.declared.CheckRule.{CheckRule}
use Rattle.mstp_frame.specs.Fields.{data_part}
use Rattle.mstp_decode.specs.Decode as mstp
use Rattle.bip_message.specs.declared.BvlcMessage.{BvlcMessage}
use Rattle.bip_message.specs.declared.BvlcMessage.TheVariants.{Npdu, TimeToLive, NoNpdu}
use Rattle.bip_message.specs.Message.{process, npdu_of, npdu}
use Rattle.ethernet_decode.specs.declared.EthernetForm.{EthernetForm}
use Rattle.ethernet_decode.specs.declared.EthernetHeader.{EthernetHeader}
use Rattle.ethernet_decode.specs.Decode as ethernet
use Rattle.numbers.specs.Layout.{header_numbers}
use Rattle.answers.specs.Parts.{part_named, NpduNamed}
use Rattle.answers.specs.Told.{carried_numbers, decoded_payload}

-- all from a place on
rest : (n : ℕ) (s : List ℕ) → take (length s - n) (drop n s) ≡ drop n s
rest n s = take_all (length s - n) (drop n s) (omega (arith, length-drop n s))

-- a refusal has a number
has_number : (refusal : Refusal) → refusal_number refusal ≡ 0 → ⊥
has_number refusal none = grind arith

-- the data of an MS/TP frame
pub data_named : (rule : CheckRule) (s before : List ℕ) → answer_number (mstp.decode rule s) ≡ 0
    → part_named 6 (made_of header_numbers before (mstp.decode rule s)) s ≡ mstp.frame_data rule s
unfolding mstp.decode mstp.frame_data answered header_numbers mstp.header_of data_part
data_named rule s before e = by (mstp.decode_question rule s) e
  where
    by : (q : ℕ) → answer_number (result_of q (mstp.header_of s)) ≡ 0
        → part_named 6 (made_of header_numbers before (result_of q (mstp.header_of s))) s ≡ answered (λ _. []) q (data_part s)
    by zero none = refl
    by (suc q) none = absurd (has_number _ none)

-- the NPDU of a BVLC message
pub npdu_named : (s before : List ℕ) → NpduNamed (process s) (made_of (carried_numbers (length s)) before (process s)) s
unfolding npdu
npdu_named s before = by (process s) refl
  where
    by : (m : Result BvlcMessage Refusal) → process s ≡ m → NpduNamed m (made_of (carried_numbers (length s)) before m) s
    by (Ok (Npdu start)) e = rest start s ∙ sym (ap (λ (m : Result BvlcMessage Refusal). npdu_of m s) e)
    by (Ok (TimeToLive n)) e = tt
    by (Ok NoNpdu) e = tt
    by (Err refusal) e = tt

-- the payload of an Ethernet frame
pub payload_named : (form : EthernetForm) (s before : List ℕ) → answer_number (ethernet.decode form s) ≡ 0
    → part_named 0 (decoded_payload before (ethernet.decode form s)) s ≡ ethernet.payload form s
unfolding ethernet.decode ethernet.payload answered
payload_named form s before e = by (ethernet.decode_question form s) e
  where
    header : EthernetHeader
    header = ethernet.header (ethernet.destination_of s) (ethernet.source_of s) (ethernet.payload_length form s)

    by : (q : ℕ) → answer_number (result_of q header) ≡ 0
        → part_named 0 (decoded_payload before (result_of q header)) s
        ≡ answered (λ _. []) q (take (ethernet.payload_length form s) (drop 17 s))
    by zero none = refl
    by (suc q) none = absurd (has_number _ none)
