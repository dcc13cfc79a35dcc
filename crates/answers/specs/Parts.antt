-- Numbers that name a part of the caller's octets: its place, then its octet count.
-- Assumes nothing.
use Rattle.std.specs.Prelude.{ℕ, ◌+◌, ◌-◌, ◌≡◌, List, [], ◌∷◌, get_or, take, drop, Result, IfOk}
use Rattle.octets.specs.declared.refusal.Refusal.{Refusal}
use Rattle.bip_message.specs.declared.BvlcMessage.{BvlcMessage}
use Rattle.bip_message.specs.declared.BvlcMessage.TheVariants.{Npdu, TimeToLive, NoNpdu}
use Rattle.bip_message.specs.Message.{npdu}

-- what a BVLC message carries: 1 and an NPDU from a start to the message's size, as place and octet count
abbrev pub npdu_numbers : ℕ → ℕ → List ℕ
npdu_numbers start size = 1 ∷ start ∷ (size - start) ∷ []

-- 2 and a time to live
abbrev pub time_to_live_numbers : ℕ → List ℕ
time_to_live_numbers n = 2 ∷ n ∷ 0 ∷ []

-- 3: no NPDU
abbrev pub no_npdu_numbers : List ℕ
no_npdu_numbers = 3 ∷ 0 ∷ 0 ∷ []

-- the payload of an Ethernet frame, n octets: place and octet count
abbrev pub payload_numbers : ℕ → List ℕ
payload_numbers n = 17 ∷ n ∷ []

-- the part of some octets that two numbers of a list name, those from i on: its place and its octet count
abbrev pub part_named : ℕ → List ℕ → List ℕ → List ℕ
part_named i numbers s = take (get_or numbers (i + 1) 0) (drop (get_or numbers i 0) s)

-- where a message carries an NPDU, the last two of its numbers name it
abbrev pub CarriedNamed : List ℕ → List ℕ → BvlcMessage → Type 0
CarriedNamed numbers s (Npdu start) = part_named 1 numbers s ≡ npdu s
CarriedNamed numbers s (TimeToLive n) = Unit {0}
CarriedNamed numbers s NoNpdu = Unit {0}

-- where a BVLC message's answer is an NPDU, the last two of its numbers name it
abbrev pub NpduNamed : Result BvlcMessage Refusal → List ℕ → List ℕ → Type 0
NpduNamed answer numbers s = IfOk answer (CarriedNamed numbers s)
