-- `validation::validate_frame` meets its contract: each link goes to its validator.
-- Assumes nothing.
use mathlib.Core.Path.{ap, ◌∙◌}
use Rattle.std.specs.Prelude.{Some}
use Rattle.validation.proofs.Links.{result_is}
use Rattle.validation.proofs.validate_frame.Goals as goal

pub returns-in-None : goal.returns-in-None
returns-in-None c = result_is _ _ c.link_of.ensures c.in-None.is c.no_link.ensures

pub returns-in-Some-BacnetIp : goal.returns-in-Some-BacnetIp
returns-in-Some-BacnetIp c =
    let i = c.in-Some-BacnetIp in result_is _ _ c.link_of.ensures (i.is ∙ ap Some i.field-0-is) c.validate_bacnet_ip_frame.ensures.value

pub returns-in-Some-Ethernet : goal.returns-in-Some-Ethernet
returns-in-Some-Ethernet c =
    let i = c.in-Some-Ethernet in result_is _ _ c.link_of.ensures (i.is ∙ ap Some i.field-0-is) c.validate_ethernet_frame.ensures.value

pub returns-in-Some-MsTP : goal.returns-in-Some-MsTP
returns-in-Some-MsTP c =
    let i = c.in-Some-MsTP in result_is _ _ c.link_of.ensures (i.is ∙ ap Some i.field-0-is) c.validate_mstp_frame.ensures.value
