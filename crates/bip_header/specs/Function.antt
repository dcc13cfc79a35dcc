-- The functions of BVLC messages and their numbers.
-- Assumes nothing.
use Rattle.std.specs.Prelude.{ℕ, ◌≡◌, cond, List, [], ◌∷◌, leb, get_or, Ok, IfOk}
use Rattle.std.specs.Prelude as std
use Rattle.octets.specs.Refusal.{refused}
use Rattle.octets.specs.declared.refusal.Refusal.{Refusal}
use Rattle.bip_header.specs.declared.function.BvlcFunction.{BvlcFunction}
use Rattle.bip_header.specs.declared.function.BvlcFunction.TheVariants.{Result, WriteBroadcastDistributionTable}
use Rattle.bip_header.specs.declared.function.BvlcFunction.TheVariants.{ReadBroadcastDistributionTable}
use Rattle.bip_header.specs.declared.function.BvlcFunction.TheVariants.{ReadBroadcastDistributionTableAck, ForwardedNpdu}
use Rattle.bip_header.specs.declared.function.BvlcFunction.TheVariants.{RegisterForeignDevice, ReadForeignDeviceTable}
use Rattle.bip_header.specs.declared.function.BvlcFunction.TheVariants.{ReadForeignDeviceTableAck}
use Rattle.bip_header.specs.declared.function.BvlcFunction.TheVariants.{DeleteForeignDeviceTableEntry}
use Rattle.bip_header.specs.declared.function.BvlcFunction.TheVariants.{DistributeBroadcastToNetwork}
use Rattle.bip_header.specs.declared.function.BvlcFunction.TheVariants.{OriginalUnicastNpdu, OriginalBroadcastNpdu}
use Rattle.bip_header.specs.declared.function.BvlcFunction.TheVariants.{SecureBvll}

-- the number of each function
abbrev pub function_number : BvlcFunction → ℕ
function_number Result = 0x00
function_number WriteBroadcastDistributionTable = 0x01
function_number ReadBroadcastDistributionTable = 0x02
function_number ReadBroadcastDistributionTableAck = 0x03
function_number ForwardedNpdu = 0x04
function_number RegisterForeignDevice = 0x05
function_number ReadForeignDeviceTable = 0x06
function_number ReadForeignDeviceTableAck = 0x07
function_number DeleteForeignDeviceTableEntry = 0x08
function_number DistributeBroadcastToNetwork = 0x09
function_number OriginalUnicastNpdu = 0x0A
function_number OriginalBroadcastNpdu = 0x0B
function_number SecureBvll = 0x0C

-- the functions in the order of their numbers
abbrev pub functions : List BvlcFunction
functions =
    Result
    ∷ WriteBroadcastDistributionTable
    ∷ ReadBroadcastDistributionTable
    ∷ ReadBroadcastDistributionTableAck
    ∷ ForwardedNpdu
    ∷ RegisterForeignDevice
    ∷ ReadForeignDeviceTable
    ∷ ReadForeignDeviceTableAck
    ∷ DeleteForeignDeviceTableEntry
    ∷ DistributeBroadcastToNetwork
    ∷ OriginalUnicastNpdu
    ∷ OriginalBroadcastNpdu
    ∷ SecureBvll
    ∷ []

-- the function of a number from 00 to 0C; above 0C, where there is none, the last
abbrev pub function_of : ℕ → BvlcFunction
function_of n = get_or functions n SecureBvll

-- the function that a number names; where it names none, question 13 fails
abbrev pub try_from : ℕ → std.Result BvlcFunction Refusal
try_from n = cond (leb n 0x0C) (Ok (function_of n)) (refused 13)

-- where a number names a function, it is that function's number
abbrev pub NumberBack : ℕ → std.Result BvlcFunction Refusal → Type 0
NumberBack n answer = IfOk answer (λ f. function_number f ≡ n)
