-- The rule that a case names.
-- Assumes nothing.
use Rattle.std.specs.Prelude.{ℕ, eqb, Bool, true, false}
use Rattle.crc.specs.declared.CheckRule.{CheckRule}
use Rattle.crc.specs.declared.CheckRule.TheVariants.{AnnexG, House}

-- Annex G's rule or the house rule
abbrev pub annex_g_or : Bool → CheckRule
annex_g_or true = AnnexG
annex_g_or false = House

-- the letter g names Annex G's rule, any other the house rule
abbrev pub rule_of : ℕ → CheckRule
rule_of letter = annex_g_or (eqb letter 0x67)
