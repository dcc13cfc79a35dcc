-- `runs::within_from` meets its contract: those in front of what is behind place i are counted.
-- Assumes nothing.
use Rattle.std.proofs.Common.{arith, ◌≡◌, ◌∙◌, drop}
use Rattle.std.proofs.lemmas.Grind.{common_steps}
use Rattle.octets.specs.Range.{within}
use Rattle.runs.proofs.Front.{prefix_len-front, front_end}
use Rattle.runs.proofs.within_from.Goals as goal

pub returns-in-Some : goal.returns-in-Some
returns-in-Some c =
    let rest : c.in-Some.rest.now ≡ drop c.args.i c.args.s.now = grind (arith, common_steps, c.in-Some.ensures) in
    rw (← rest) (c.front_within.ensures ∙ prefix_len-front (within c.args.low c.args.high) c.in-Some.rest.now)

pub returns-in-None : goal.returns-in-None
returns-in-None c = omega (arith, front_end (within c.args.low c.args.high) c.args.s.now c.args.i (omega (arith, c.in-None.ensures)))
