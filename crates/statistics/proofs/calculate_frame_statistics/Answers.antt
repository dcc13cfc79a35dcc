-- `statistics::calculate_frame_statistics` meets its contract: the size decides whether there are statistics.
-- Assumes nothing.
use mathlib.Core.Path.{sym, ◌∙◌}
use Rattle.statistics.proofs.Answers.{too_many, all_counted, null_counted, high_counted, longest_stands}
use Rattle.statistics.proofs.Change.{taken, one_changed, reached}
use Rattle.statistics.proofs.calculate_frame_statistics.Goals as goal

pub returns-then-not-at_most_65535-clause-value : goal.returns-then-not-at_most_65535-clause-value
returns-then-not-at_most_65535-clause-value c = too_many _ (sym c.at_most_65535.ensures ∙ c.if-not-at_most_65535.true)

pub returns-then-not-at_most_65535-clause-reached : goal.returns-then-not-at_most_65535-clause-reached
returns-then-not-at_most_65535-clause-reached c = reached

pub returns : goal.returns
returns c =
    let few = sym c.at_most_65535.ensures ∙ c.if-not-at_most_65535.false in
    rw c.frame_statistics.ensures
    record {
      value = taken _ few;
      counts = all_counted _ (λ i. (c.type_inv.frame i).fits);
      null = null_counted _;
      high = high_counted _ (λ i. (c.type_inv.frame i).fits);
      longest = longest_stands _;
      changed = one_changed _ few;
      reached = reached;
    }
