-- The links that a validator tells apart.
-- Assumes nothing.
use Rattle.std.specs.Prelude.{ℕ, Option, Some, None}
use Rattle.findings.specs.declared.LinkType.{LinkType}
use Rattle.findings.specs.declared.LinkType.TheVariants.{BacnetIp, Ethernet, MsTP}

-- the number of each link; 0 where there is none
abbrev pub link_number : Option LinkType → ℕ
link_number None = 0
link_number (Some BacnetIp) = 1
link_number (Some Ethernet) = 2
link_number (Some MsTP) = 3
