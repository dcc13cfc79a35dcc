-- `crc::data_register` meets its contract: it goes through the rule's table, whose constant has sixteen bits, the top one 1.
-- Assumes nothing.
use native.Mathlib.Omega.{arith}
use Prim.Native.Nat.{◌≤◌}
use lib.Dec.{lit<}
use Rattle.crc.specs.Check.{TopBitSet}
use Rattle.crc.specs.Rule.{data_constant}
use Rattle.crc.specs.declared.CheckRule.{CheckRule}
use Rattle.crc.specs.declared.CheckRule.TheVariants.{AnnexG, House}
use Rattle.crc.proofs.data_register.Goals as goal

top : (rule : CheckRule) → TopBitSet 15 (data_constant rule)
top AnnexG = (omega arith, lit< tt)
top House = (omega arith, lit< tt)

wide : 8 ≤ 16
wide = omega arith

pub returns : goal.returns
returns c =
    let rule = c.args.rule in
    let is = c.register_of.ensures in
    let of-rule = c.data_entries.ensures in
    record {
      value = is.value (data_constant rule) of-rule;
      continued = λ more. is.continued (data_constant rule) more of-rule;
      fits = is.fits (data_constant rule) 16 of-rule wide (top rule).1 (lit< tt);
      injective = λ other. is.injective (data_constant rule) 15 other of-rule wide (top rule) (lit< tt);
    }
