-- What the promise says by itself: every changed octet and every pattern is one of its changes.
-- Assumes nothing.
use mathlib.Core.Path.{ap, ◌∙◌}
use mathlib.Core.List.{List}
use Prim.Native.Nat.{ℕ, ◌^◌, ◌<◌}
use lib.Bits.{bit_xor}
use lib.ListN.{get_or}
use lib.Seq.{get_or-set_same}
use Rattle.octets.proofs.Change.{every_change}
use Rattle.crc.specs.Burst.{XoredAt, Burst}
use Rattle.crc.proofs.EveryBurst.{every_burst}
use Rattle.mstp_decode.specs.Change.{missed}
use Rattle.mstp_decode.specs.Example.{Example}

-- a pattern is a change of neighbouring bits
pub burst : {w : ℕ} {before after : List ℕ} (pattern bit : ℕ) → 0 < pattern → pattern < 2 ^ w → XoredAt pattern bit before after
    → Burst w before after
burst pattern bit some narrow xored = record {
  pattern = pattern;
  bit = bit;
  some = some;
  narrow = narrow;
  xored = xored;
}

pub example : Example
example = record {
  octet = λ rule before answer place other finds written inside new.
      (finds before written).octet place (every_change before place other inside new)
      ∙ ap (λ (x : ℕ). missed rule place (bit_xor (get_or before place 0) x)) (get_or-set_same before place other 0 inside);
  bits_in_header = λ rule before after answer pattern bit finds written some narrow xored.
      (finds before written).bits_in_header (burst pattern bit some narrow xored);
  bits_in_data = λ rule before after answer pattern bit finds written some narrow xored.
      (finds before written).bits_in_data (burst pattern bit some narrow xored);
  every_burst = every_burst;
}
