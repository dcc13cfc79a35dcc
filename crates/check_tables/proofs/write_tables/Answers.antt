-- `check_tables::write_tables` meets its contract: Annex G's tables, and behind them the house's, fill the memory.
-- Assumes nothing.
use native.Mathlib.Omega.{arith}
use Rattle.octets.proofs.Puts.{put_size, put_more}
use Rattle.crc.specs.declared.CheckRule.TheVariants.{AnnexG, House}
use Rattle.check_tables.specs.Text.{tables_text}
use Rattle.check_tables.proofs.Sizes.{length_rule, length_text, fills}
use Rattle.check_tables.proofs.write_tables.Goals as goal

pub put_rule-behind-requires : goal.put_rule-behind-requires
put_rule-behind-requires c = omega (arith, length_rule AnnexG, length_rule House)

pub put_rule-requires : goal.put_rule-requires
put_rule-requires c =
    let first = c.put_rule-behind.ensures in
    omega (arith, length_rule AnnexG, length_rule House, first.place, put_size first)

pub returns : goal.returns
unfolding tables_text
returns c =
    let all = fills (omega (arith, length_text)) (put_more c.put_rule-behind.ensures c.put_rule.ensures) in
    record { value = all.0; output = all.1.0; fits = all.1.1 }
