-- `validation::faultless` meets its contract: each link goes to its validator, and no link is an error.
-- Assumes nothing.
use mathlib.Core.Path.{refl, ap, ◌∙◌}
use Rattle.std.specs.Prelude.{Some}
use Rattle.findings.specs.Result.{faultless}
use Rattle.validation.proofs.Links.{result_is, no_link_at_fault}
use Rattle.validation.proofs.faultless.Goals as goal

pub returns-in-None : goal.returns-in-None
returns-in-None c = no_link_at_fault _ ∙ ap faultless (result_is _ _ c.link_of.ensures c.in-None.is refl)

pub returns-in-Some-BacnetIp : goal.returns-in-Some-BacnetIp
returns-in-Some-BacnetIp c =
    let i = c.in-Some-BacnetIp in
    c.faultless.ensures ∙ ap faultless (result_is _ _ c.link_of.ensures (i.is ∙ ap Some i.field-0-is) refl)

pub returns-in-Some-Ethernet : goal.returns-in-Some-Ethernet
returns-in-Some-Ethernet c =
    let i = c.in-Some-Ethernet in
    c.faultless-in-Some-Ethernet.ensures ∙ ap faultless (result_is _ _ c.link_of.ensures (i.is ∙ ap Some i.field-0-is) refl)

pub returns-in-Some-MsTP : goal.returns-in-Some-MsTP
returns-in-Some-MsTP c =
    let i = c.in-Some-MsTP in
    c.faultless-in-Some-MsTP.ensures ∙ ap faultless (result_is _ _ c.link_of.ensures (i.is ∙ ap Some i.field-0-is) refl)
