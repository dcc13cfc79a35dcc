-- `missed_changes::print_rule` meets its contract: its last line has room.
-- Assumes nothing.
use native.Mathlib.Omega.{arith}
use Rattle.missed_changes.specs.Changes.{is_change, is_missed}
use Rattle.missed_changes.proofs.Counts.{all_most}
use Rattle.missed_changes.proofs.Lines.{count_fits}
use Rattle.missed_changes.proofs.print_rule.Goals as goal

pub put_count_line-n-requires : goal.put_count_line-n-requires
put_count_line-n-requires g c =
    let tally = c.change_all-tally.ensures in
    let rule = c.args.rule in
    count_fits _ _ _ c.requires
    (omega (arith, tally.made, all_most is_change rule)) (omega (arith, tally.missed, all_most (is_missed rule) rule))
