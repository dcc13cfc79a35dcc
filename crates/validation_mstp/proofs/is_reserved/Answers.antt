-- `validation_mstp::is_reserved` meets its contract: the range is the definition's.
-- Assumes nothing.
use Rattle.validation_mstp.proofs.is_reserved.Goals as goal

pub returns : goal.returns
returns c = c.within.ensures
