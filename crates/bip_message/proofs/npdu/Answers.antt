-- `bip_message::npdu` meets its contract: an answer that is an NPDU says where it starts, and every other has no octets.
-- Assumes nothing.
use mathlib.Core.Path.{◌≡◌, sym, ap, ◌∙◌}
use native.Mathlib.Omega.{arith}
use Rattle.std.specs.Prelude.{Ok}
use Rattle.bip_message.specs.declared.BvlcMessage.TheVariants.{Npdu}
use Rattle.bip_message.specs.Message.{process}
use Rattle.bip_message.proofs.Npdus.{within, part_npdu, part_other, part_refused}
use Rattle.bip_message.proofs.npdu.Goals.{In-Npdu}
use Rattle.bip_message.proofs.npdu.Goals as goal

-- the place that the answer says
started : (c : goal.In-Npdu) → process c.args.message.now ≡ Ok (Npdu c.in-Npdu.start)
started c = sym c.process_bvlc_message.ensures ∙ c.in-Ok.is ∙ ap Ok c.in-Npdu.is

pub returns-in-Npdu : goal.returns-in-Npdu
returns-in-Npdu c =
    let all = part_npdu _ (λ i. (c.type_inv.message i).fits) (started (goal.at.returns-in-Npdu c).In-Npdu) in
    record { result_value = all.0; whole = all.1.0; carries = all.1.1.0; least = all.1.1.1 }

pub returns-in_default-carried : goal.returns-in_default-carried
returns-in_default-carried c =
    let all = part_other _ _ c.in_default-carried.not-Npdu (sym c.process_bvlc_message.ensures ∙ c.in-Ok.is) in
    record { result_value = all.0; whole = all.1.0; carries = all.1.1.0; least = all.1.1.1 }

pub returns-in_default : goal.returns-in_default
returns-in_default c =
    let all = part_refused _ (sym c.process_bvlc_message.ensures ∙ c.in_default.is) in
    record { result_value = all.0; whole = all.1.0; carries = all.1.1.0; least = all.1.1.1 }

pub slice_bounds-result-count : goal.slice_bounds-result-count
slice_bounds-result-count c = omega (arith, within _ (started c))

pub slice_bounds-result-start : goal.slice_bounds-result-start
slice_bounds-result-start c = omega (arith, within _ (started c))
