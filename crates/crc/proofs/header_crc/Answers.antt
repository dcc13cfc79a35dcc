-- `crc::header_crc` meets its contract: it is the complement of the register, and the house's constant leaves its top bit 0.
-- Assumes nothing.
use Rattle.crc.proofs.Least.{header_checked, least}
use Rattle.crc.proofs.header_crc.Goals as goal

pub returns : goal.returns
returns c =
    let right = header_checked _ _ c.header_register.ensures.value in
    record { value = right; high = least _ _ (λ i. (c.type_inv.header i).fits) right }
