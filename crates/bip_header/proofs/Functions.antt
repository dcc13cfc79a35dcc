-- Functions and their numbers are each other's inverse.
-- Assumes nothing.
use mathlib.Core.Path.{◌≡◌, refl}
use mathlib.Core.Bool.{Bool, true, false, cond}
use mathlib.Core.List.{[], ◌∷◌}
use Prim.Native.Nat.{ℕ, ◌≤◌}
use native.Mathlib.Omega.{arith}
use lib.Dec.{leb}
use Rattle.std.specs.Prelude.{Ok}
use Rattle.octets.specs.Question.{ask, first_no, answered}
use Rattle.octets.specs.Refusal.{refused, result_of}
use Rattle.octets.proofs.Cases.{InOrder, in_order}
use Rattle.bip_header.specs.declared.function.BvlcFunction.{BvlcFunction}
use Rattle.bip_header.specs.declared.function.BvlcFunction.TheVariants.{Result, WriteBroadcastDistributionTable, ReadBroadcastDistributionTable, ReadBroadcastDistributionTableAck, ForwardedNpdu, RegisterForeignDevice, ReadForeignDeviceTable, ReadForeignDeviceTableAck, DeleteForeignDeviceTableEntry, DistributeBroadcastToNetwork, OriginalUnicastNpdu, OriginalBroadcastNpdu, SecureBvll}
use Rattle.bip_header.specs.Function.{function_number, functions, function_of, try_from}

-- a function's number is at most 0C and names the function
pub function_back : (f : BvlcFunction) → (leb (function_number f) 0x0C ≡ true) × (function_of (function_number f) ≡ f)
function_back Result = (refl, refl)
function_back WriteBroadcastDistributionTable = (refl, refl)
function_back ReadBroadcastDistributionTable = (refl, refl)
function_back ReadBroadcastDistributionTableAck = (refl, refl)
function_back ForwardedNpdu = (refl, refl)
function_back RegisterForeignDevice = (refl, refl)
function_back ReadForeignDeviceTable = (refl, refl)
function_back ReadForeignDeviceTableAck = (refl, refl)
function_back DeleteForeignDeviceTableEntry = (refl, refl)
function_back DistributeBroadcastToNetwork = (refl, refl)
function_back OriginalUnicastNpdu = (refl, refl)
function_back OriginalBroadcastNpdu = (refl, refl)
function_back SecureBvll = (refl, refl)

-- the number of a number's function
pub number_back : (n : ℕ) → n ≤ 0x0C → function_number (function_of n) ≡ n
number_back n h = omega (arith, in_order function_number functions SecureBvll 0 n ordered (omega arith))
  where
    ordered : InOrder function_number 0 functions
    ordered = (refl, (refl, (refl, (refl, (refl, (refl, (refl, (refl, (refl, (refl, (refl, (refl, (refl, tt)))))))))))))

-- what reading a number answers: question 13, or the function
pub asked : (n : ℕ) → try_from n ≡ result_of (first_no (ask 13 (leb n 0x0C) ∷ [])) (function_of n)
unfolding first_no answered
asked n = by (leb n 0x0C)
  where
    by : (known : Bool) → cond known (Ok (function_of n)) (refused 13) ≡ result_of (first_no (ask 13 known ∷ [])) (function_of n)
    by true = refl
    by false = refl
