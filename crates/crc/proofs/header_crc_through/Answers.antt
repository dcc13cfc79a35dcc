-- `crc::header_crc_through` meets its contract: through a table of octets the register stays one; through a rule's table it is the rule's.
-- Assumes nothing.
use Prim.Native.Nat.{ℕ, ◌-◌, ◌^◌, ◌<◌}
use native.Mathlib.Omega.{arith}
use borrow.Author.Rules.{rules}
use lib.ListN.{get_or}
use mathlib.Core.Path.{◌≡◌}
use mir.Syntax.{w8}
use mir.Val.{Fits}
use Rattle.crc.specs.Rule.{header_constant}
use Rattle.crc.specs.Through.{check_through}
use Rattle.crc.proofs.Least.{header_checked}
use Rattle.crc.proofs.Through.{eight_checked}
use Rattle.crc.proofs.header_crc_through.Goals.{After-register_of}
use Rattle.crc.proofs.header_crc_through.Goals as goal

checked : (c : goal.After-register_of)
    → (c.register_of.result < 2 ^ 8) × (0xFF - c.register_of.result ≡ check_through c.args.table.now c.args.header)
checked c =
    let octet : (i : ℕ) → Fits w8 (get_or c.args.header i 0) = λ i. search rules in
    eight_checked _ c.fits-table _ (λ i. (octet i).fits) c.register_of.ensures.through

pub overflow_cast-result : goal.overflow_cast-result
overflow_cast-result c = omega (arith, (checked (goal.at.overflow_cast-result c).After-register_of).0)

pub overflow_sub-result : goal.overflow_sub-result
overflow_sub-result c = omega (arith, (checked (goal.at.overflow_sub-result c).After-register_of).0)

pub returns : goal.returns
returns c =
    record {
      value = (checked (goal.at.returns c).After-register_of).1;
      ruled = λ rule of-rule. header_checked rule _ (c.register_of.ensures.value (header_constant rule) of-rule);
    }
