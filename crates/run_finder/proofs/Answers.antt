-- What the finder answers, with what it promises of its answer.
-- Assumes nothing.
use mathlib.Core.Path.{◌≡◌}
use mathlib.Core.List.{List}
use Prim.Native.Nat.{ℕ}
use Rattle.octets.proofs.Parts.{Octets}
use Rattle.crc.specs.declared.CheckRule.{CheckRule}
use Rattle.run_search.specs.declared.Report.{Report}
use Rattle.std.specs.Prelude.{Option, Result, IfOk}
use Rattle.octets.specs.declared.refusal.Refusal.{Refusal}
use Rattle.run_finder.specs.Find.{find}
use Rattle.run_search.specs.Found.{Found}
use Rattle.run_finder.specs.Calls.{Calls}
use Rattle.run_finder.specs.Example.{Example}
use Rattle.run_finder.proofs.Finds.{plain}
use Rattle.run_finder.proofs.Calls.{calls}
use Rattle.run_finder.proofs.Examples.{example}

pub answers : (rule : CheckRule) (run : List ℕ) → Octets run → (place : ℕ) {r : Result (Option Report) Refusal} → r ≡ find rule run place
    → (r ≡ find rule run place) × (IfOk r (Found rule run place) × (Calls rule run place r × Example))
answers rule run octets place e =
    (e, (plain rule run octets place _ e, (calls rule run octets place e, example)))
