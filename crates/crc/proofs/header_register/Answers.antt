-- `crc::header_register` meets its contract: it goes through the rule's table, whose constant has eight bits; the top bit of 81 is 1.
-- Assumes nothing.
use Prim.Native.Nat.{◌^◌, ◌<◌}
use native.Mathlib.Nat.{le_refl}
use native.Mathlib.Omega.{arith}
use lib.Dec.{lit<}
use Rattle.crc.specs.Check.{TopBitSet}
use Rattle.crc.specs.Rule.{header_constant}
use Rattle.crc.specs.declared.CheckRule.TheVariants.{AnnexG}
use Rattle.crc.proofs.Least.{header_constant_lem}
use Rattle.crc.proofs.header_register.Goals.{After-register_of}
use Rattle.crc.proofs.header_register.Goals as goal

fits : (c : goal.After-register_of) → c.register_of.result < 2 ^ 8
fits c = c.register_of.ensures.fits (header_constant c.args.rule) 8 c.header_entries.ensures (le_refl 8) (header_constant_lem c.args.rule) (lit< tt)

top : TopBitSet 7 (header_constant AnnexG)
top = (omega arith, lit< tt)

pub overflow_cast-result : goal.overflow_cast-result
overflow_cast-result c = omega (arith, fits (goal.at.overflow_cast-result c).After-register_of)

pub returns-clause-continued : goal.returns-clause-continued
returns-clause-continued c = λ more. c.register_of.ensures.continued (header_constant c.args.rule) more c.header_entries.ensures

pub returns-clause-fits : goal.returns-clause-fits
returns-clause-fits c = fits (goal.at.returns-clause-fits c).After-register_of

pub returns-clause-injective : goal.returns-clause-injective
returns-clause-injective c = λ annex-g other.
    c.register_of.ensures.injective (header_constant c.args.rule) 7 other c.header_entries.ensures (le_refl 8) (rw annex-g top) (lit< tt)
