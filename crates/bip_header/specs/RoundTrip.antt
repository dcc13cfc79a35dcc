-- Reading and writing a header are inverse: what the contracts of `encode` and `decode` promise beside their equations.
-- Assumes nothing.
use Rattle.std.specs.Prelude.{◌≡◌, List, ◌++◌, ℕ, take, Result, Ok, IfOk}
use Rattle.octets.specs.Output.{InFront}
use Rattle.octets.specs.declared.refusal.Refusal.{Refusal}
use Rattle.bip_header.specs.declared.function.BvlcFunction.{BvlcFunction}
use Rattle.bip_header.specs.declared.BvlcHeader.{BvlcHeader}
use Rattle.bip_header.specs.Header.{header_octets, new_header, decode}

-- some octets, with any behind them, read back to what was written
abbrev pub GivesBack : BvlcFunction → ℕ → List ℕ → Type 0
GivesBack function n s = (rest : List ℕ) → decode (s ++ rest) ≡ Ok (new_header function n)

-- so do the octets that writing counts in front of the output
abbrev pub ReadsBack : BvlcFunction → ℕ → List ℕ → Result ℕ Refusal → Type 0
ReadsBack function n out answer = InFront (GivesBack function n) answer out

-- where reading answers a header, the first four octets are what writing gives for its function and length
abbrev pub WritesBack : List ℕ → Result BvlcHeader Refusal → Type 0
WritesBack s answer = IfOk answer (λ header. take 4 s ≡ header_octets header.function header.length)
