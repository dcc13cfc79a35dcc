-- `run_search::through::next_55` meets its contract: no frame starts at an octet other than 55.
-- Assumes nothing.
use mathlib.Core.Path.{◌≡◌, refl, subst}
use Prim.Native.Nat.{◌+◌, ◌-◌}
use native.Mathlib.Omega.{arith}
use lib.ListN.{length}
use Rattle.run_search.specs.Steps.{NoneBefore}
use Rattle.run_search.proofs.Turns.{none_before_55}
use Rattle.run_search.proofs.through.next_55.Goals as goal

pub returns-in-Some : goal.returns-in-Some
returns-in-Some c = none_before_55 _ (λ i. (c.type_inv.run i).fits) c.first_55.ensures refl (omega arith) c.in-Some.is

pub returns-in-None : goal.returns-in-None
returns-in-None c =
    let end : c.args.from + (length c.args.run.now - c.args.from) ≡ length c.args.run.now = omega arith in
    subst (NoneBefore _ _) end (none_before_55 _ (λ i. (c.type_inv.run i).fits) c.first_55.ensures refl (omega arith) c.in-None.is)
