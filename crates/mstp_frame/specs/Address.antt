-- The addresses of MS/TP: masters 0 to 127, slaves 128 to 254, and 255, which is all stations; what masters send to slaves.
-- Assumes nothing.
use Rattle.std.specs.Prelude.{ℕ, Bool, ◌||◌, eqb}
use Rattle.octets.specs.Range.{within}
use Rattle.crc.specs.declared.CheckRule.{CheckRule}
use Rattle.crc.specs.declared.CheckRule.TheVariants.{AnnexG, House}

-- a master's address
abbrev pub is_master : ℕ → Bool
is_master address = within 0 127 address

-- a slave's address
abbrev pub is_slave : ℕ → Bool
is_slave address = within 128 254 address

-- a type that a master usually sends to a slave: 3, a test request; under Annex G also 5 and 6, data frames
unfoldable pub usual_to_slave : CheckRule → ℕ → Bool
usual_to_slave AnnexG type = eqb type 3 || within 5 6 type
usual_to_slave House type = eqb type 3
