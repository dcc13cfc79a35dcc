-- Which frames validation.rs's Ethernet validator calls valid: those of ethernet.rs's.
-- Assumes nothing.
use Rattle.std.specs.Prelude.{◌≡◌, Bool, List, ℕ, eqb}
use Rattle.octets.specs.Question.{first_no}
use Rattle.ethernet_decode.specs.Decode.{validate_questions}

-- valid are exactly the octets that fail no question of ethernet.rs's validator
abbrev pub AgreesWithEthernet : List ℕ → Bool → Type 0
AgreesWithEthernet s valid = valid ≡ eqb (first_no (validate_questions s)) 0
