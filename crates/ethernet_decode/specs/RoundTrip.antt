-- What the contracts of reading and validating promise beside their equations.
-- Assumes nothing.
use Rattle.std.specs.Prelude.{◌≡◌, List, [], ◌++◌, ℕ, ◌≤◌, length, Result, IsOk, IfOk, OnOk}
use Rattle.octets.specs.declared.refusal.Refusal.{Refusal}
use Rattle.ethernet_decode.specs.declared.EthernetHeader.{EthernetHeader}
use Rattle.ethernet_decode.specs.declared.EthernetForm.{EthernetForm}
use Rattle.ethernet_decode.specs.declared.EthernetForm.TheVariants.{EtherType, Length}
use Rattle.ethernet_decode.specs.Frame.{unpadded}
use Rattle.ethernet_decode.specs.Decode.{accepted, decode, payload}

-- what may stand behind a frame's payload: in form EtherType nothing; in form Length anything, up to 1514 octets in all
abbrev pub Ends : EthernetForm → ℕ → List ℕ → Type 0
Ends EtherType size behind = behind ≡ []
Ends Length size behind = size ≤ 1514

-- octets are a frame of a form, without padding, and what stands behind it: of two addresses of six octets, and a payload
pub record LaidOut (form : EthernetForm) (s destination source body : List ℕ) : Type 0 where
  pub behind : List ℕ
  pub destination_size : length destination ≡ 6
  pub source_size : length source ≡ 6
  pub octets : s ≡ unpadded form destination source body ++ behind
  pub ends : Ends form (length s) behind

-- where reading accepts, the octets are laid out so, of the addresses read and the payload
abbrev pub WritesBack : EthernetForm → List ℕ → Result EthernetHeader Refusal → Type 0
WritesBack form s answer = IfOk answer (λ h. LaidOut form s h.dest_mac h.src_mac (payload form s))

-- where octets are laid out so, reading accepts and gives the addresses and the length of the payload
abbrev pub FrameOf : EthernetForm → List ℕ → Result EthernetHeader Refusal → Type 0
FrameOf form s answer =
    (destination source body : List ℕ) → LaidOut form s destination source body → answer ≡ accepted destination source (length body)

-- and the part is the payload
abbrev pub PayloadOf : EthernetForm → List ℕ → List ℕ → Type 0
PayloadOf form s part = (destination source body : List ℕ) → LaidOut form s destination source body → part ≡ body

-- where reading accepts, it does so in no other form
abbrev pub OneForm : EthernetForm → List ℕ → Result EthernetHeader Refusal → Type 0
OneForm form s answer = OnOk answer ((other : EthernetForm) → IsOk (decode other s) → other ≡ form)

-- octets that reading accepts in form EtherType, up to 1514
abbrev pub Sendable : List ℕ → Type 0
Sendable s = IsOk (decode EtherType s) × (length s ≤ 1514)

-- the validator accepts exactly those
abbrev pub Agrees : List ℕ → Result (Unit {0}) Refusal → Type 0
Agrees s answer = (IsOk answer → Sendable s) × (Sendable s → IsOk answer)
