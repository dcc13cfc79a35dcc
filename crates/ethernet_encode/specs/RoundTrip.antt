-- What is written reads back, and what was read is written anew: the promises of `encode` beside its equations.
-- Assumes nothing.
use Rattle.std.specs.Prelude.{◌≡◌, List, ℕ, ◌+◌, ◌<◌, length, get_or, take, drop, replicate, Result, Ok}
use Rattle.octets.specs.Output.{InFront}
use Rattle.octets.specs.Question.{first_no}
use Rattle.octets.specs.declared.refusal.Refusal.{Refusal}
use Rattle.ethernet_decode.specs.declared.EthernetForm.{EthernetForm}
use Rattle.ethernet_decode.specs.declared.EthernetForm.TheVariants.{EtherType, Length}
use Rattle.ethernet_decode.specs.Decode.{accepted, decode, payload}
use Rattle.ethernet_encode.specs.Frame.{padding, padded_payload}
use Rattle.ethernet_encode.specs.Encode.{encode_questions, encode_answer, encode_output}

-- each number is an octet
abbrev pub Octets : List ℕ → Type 0
Octets s = (i : ℕ) → get_or s i 0 < 256

-- what is read of a payload that was written: in form EtherType with the zeros that pad it, in form Length as it is
abbrev pub payload_back : EthernetForm → List ℕ → List ℕ
payload_back EtherType body = padded_payload body
payload_back Length body = body

-- reading accepts s with these addresses and this payload; behind it stand the zeros that pad it, and no more; s passes
-- the questions of writing
pub record Rewritable (form : EthernetForm) (destination source body out s : List ℕ) : Type 0 where
  pub read : decode form s ≡ accepted destination source (length body)
  pub rest : payload form s ≡ body
  pub padded : drop (17 + length body) s ≡ padding (17 + length body)
  pub asked : first_no (encode_questions s out) ≡ 0

-- so it is with what writing counts in front of the output
abbrev pub ReadsBack : EthernetForm → List ℕ → List ℕ → List ℕ → List ℕ → List ℕ → Result ℕ Refusal → Type 0
ReadsBack form destination source body before after answer =
    InFront (Rewritable form destination source (payload_back form body) before) answer after

-- octets of which that holds, written anew from their addresses and payload, are counted and stand in front
abbrev pub WritesAnew : EthernetForm → List ℕ → List ℕ → List ℕ → List ℕ → List ℕ → Result ℕ Refusal → Type 0
WritesAnew form destination source body before after answer =
    (s : List ℕ) → Octets s → Rewritable form destination source body before s
    → (answer ≡ Ok (length s)) × (take (length s) after ≡ s)

-- there are such octets, with n octets FF of payload, to all, from address 0, for an output of their size; and so they are
-- written
pub record Edge (form : EthernetForm) (n : ℕ) : Type 0 where
  pub s : List ℕ
  pub octets : Octets s
  pub holds : Rewritable form (replicate 6 0xFF) (replicate 6 0x00) (replicate n 0xFF) (replicate (length s) 0x00) s
  pub counted : encode_answer form (replicate 6 0xFF) (replicate 6 0x00) (replicate n 0xFF) (replicate (length s) 0x00) ≡ Ok (length s)
  pub front : take (length s) (encode_output form (replicate 6 0xFF) (replicate 6 0x00) (replicate n 0xFF) (replicate (length s) 0x00)) ≡ s
