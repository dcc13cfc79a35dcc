-- Document 01's numbers of warnings: a kind, 1 to 4 in the order of validation.rs, and what goes with it.
-- Assumes nothing.
use Rattle.std.specs.Prelude.{ℕ, List, [], ◌∷◌}
use Rattle.findings.specs.declared.warning.ConfigurationReason.{ConfigurationReason}
use Rattle.findings.specs.declared.warning.ConfigurationReason.TheVariants.{ProprietaryType, MasterToSlave, Multicast}
use Rattle.findings.specs.declared.warning.SecurityReason.{SecurityReason}
use Rattle.findings.specs.declared.warning.SecurityReason.TheVariants.{SecureBvll, TableModification}
use Rattle.findings.specs.declared.warning.ValidationWarning.{ValidationWarning}
use Rattle.findings.specs.declared.warning.ValidationWarning.TheVariants.{UnusualFrameSize, NonStandardConfiguration, SecurityWarning}

-- the reasons of warning 3, and what was found: a proprietary type; or a master sends to a slave, a multicast address
abbrev pub configuration_numbers : ConfigurationReason → List ℕ
configuration_numbers (ProprietaryType found) = 1 ∷ found ∷ []
configuration_numbers MasterToSlave = 2 ∷ 0 ∷ []
configuration_numbers Multicast = 3 ∷ 0 ∷ []

-- the reasons of warning 4: secure BVLL (0C), a table is changed (01 and 08)
abbrev pub security_number : SecurityReason → ℕ
security_number SecureBvll = 1
security_number TableModification = 2

-- the warnings: 1 the size; 3 a reason and what was found; 4 a reason (2, a deprecated frame type, is never given)
abbrev pub warning_numbers : ValidationWarning → List ℕ
warning_numbers (UnusualFrameSize size) = 1 ∷ size ∷ 0 ∷ []
warning_numbers (NonStandardConfiguration reason) = 3 ∷ configuration_numbers reason
warning_numbers (SecurityWarning reason) = 4 ∷ security_number reason ∷ 0 ∷ []
