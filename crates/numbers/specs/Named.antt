-- The numbers that callers give for rules, types, functions, forms and times.
-- Assumes nothing.
use Rattle.std.specs.Prelude.{ℕ, cond, leb, eqb, Option, Some, None}
use Rattle.std.specs.Bool.{then_some}
use Rattle.std.specs.Option.{option_map_or}
use Rattle.std.specs.Result.{result_ok}
use Rattle.crc.specs.declared.CheckRule.{CheckRule}
use Rattle.crc.specs.declared.CheckRule.TheVariants.{AnnexG, House}
use Rattle.mstp_frame.specs.declared.MstpFrameType.{MstpFrameType}
use Rattle.mstp_frame.specs.FrameType.{from_u8}
use Rattle.bip_header.specs.declared.function.BvlcFunction.{BvlcFunction}
use Rattle.bip_header.specs.Function.{try_from}
use Rattle.ethernet_decode.specs.declared.EthernetForm.{EthernetForm}
use Rattle.ethernet_decode.specs.declared.EthernetForm.TheVariants.{EtherType, Length}

-- the case of a number from 0 to the last; any other number names none
abbrev pub named : {A : Type 0} → ℕ → (ℕ → A) → ℕ → Option A
named last case_of number = then_some (leb number last) (case_of number)

-- the rule of a number: 0 Annex G, 1 the house rule
unfoldable pub rule_of : ℕ → CheckRule
rule_of number = cond (eqb number 0) AnnexG House

-- the rule that a number names
unfoldable pub rule_named : ℕ → Option CheckRule
rule_named = named 1 rule_of

-- under the rule that a number names; something else where it names none
abbrev pub under_rule : {B : Type 0} → ℕ → (CheckRule → B) → B → B
under_rule number known unknown = option_map_or known (rule_named number) unknown

-- for the frame type that a number names
abbrev pub of_type : {B : Type 0} → ℕ → (MstpFrameType → B) → B → B
of_type number known unknown = option_map_or known (from_u8 number) unknown

-- for the BVLC function that a number names
abbrev pub of_function : {B : Type 0} → ℕ → (BvlcFunction → B) → B → B
of_function number known unknown = option_map_or known (result_ok (try_from number)) unknown

-- the Ethernet form of a number: 0 EtherType, 1 Length
unfoldable pub form_of : ℕ → EthernetForm
form_of number = cond (eqb number 0) EtherType Length

-- the Ethernet form that a number names
unfoldable pub form_named : ℕ → Option EthernetForm
form_named = named 1 form_of

-- in the Ethernet form that a number names
abbrev pub in_form : {B : Type 0} → ℕ → (EthernetForm → B) → B → B
in_form number known unknown = option_map_or known (form_named number) unknown

-- the time of a number, and a second: 0 no time, whatever the second is; 1 the second
unfoldable pub time_of : ℕ → ℕ → Option ℕ
time_of second number = cond (eqb number 0) None (Some second)

-- the time that a number and a second name
unfoldable pub time_named : ℕ → ℕ → Option (Option ℕ)
time_named second = named 1 (time_of second)

-- at the time that a number and a second name
abbrev pub at_time : {B : Type 0} → ℕ → ℕ → (Option ℕ → B) → B → B
at_time number second known unknown = option_map_or known (time_named second number) unknown
