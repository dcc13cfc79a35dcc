-- What a contract sees of a validator's result: its fields.
-- Assumes nothing.
use Rattle.std.specs.Prelude.{ℕ, Bool, List, Option}
use Rattle.findings.specs.declared.error.ValidationError.{ValidationError}
use Rattle.findings.specs.declared.warning.ValidationWarning.{ValidationWarning}
use Rattle.findings.specs.declared.LinkType.{LinkType}

pub record Outcome : Type 0 where
  pub is_valid : Bool
  pub link_type : Option LinkType
  pub frame_size : ℕ
  pub errors : List ValidationError
  pub warnings : List ValidationWarning
