-- `runs::front_within` meets its contract: the octets that are taken while they pass are those in front.
-- Assumes nothing.
use Rattle.std.proofs.Common.{rules, ◌∙◌}
use Rattle.std.proofs.lemmas.Iterator.{YieldsList-from_slice}
use Rattle.std.proofs.lemmas.Iterator.Search.{YieldsList-from_take_while}
use Rattle.std.proofs.lemmas.Iterator.Consumers.{count_from_yields_List}
use Rattle.std.proofs.lemmas.List.Folds.{length-prefix_len}
use Rattle.octets.specs.Range.{within}
use Rattle.runs.proofs.front_within.Goals as goal

pub returns : goal.returns
returns c =
    let low-high = within c.args.low c.args.high in
    let all = c.take_while.ensures in
    count_from_yields_List _ _ c.count.ensures.ran
    (YieldsList-from_take_while _ low-high (YieldsList-from_slice c.args.s.now (cc)) all.closure all.done (λ x b q k. search rules))
    ∙ length-prefix_len low-high c.args.s.now
