-- `missed_changes::change_line` meets its contract: header, words, header and newline fill the memory.
-- Assumes nothing.
use mathlib.Core.Path.{refl}
use native.Mathlib.Omega.{arith}
use Rattle.missed_changes.proofs.Lines.{header_fits, second_fits, line_is}
use Rattle.missed_changes.proofs.change_line.Goals as goal

pub put_spaced-behind-requires : goal.put_spaced-behind-requires
put_spaced-behind-requires c =
    let fits = header_fits c.args.frame.now 0 56 c.requires.0 (omega arith) in
    record { s_nonzero = fits.0; s_in_bounds = fits.1 }

pub put_spaced-behind-requires-2 : goal.put_spaced-behind-requires-2
put_spaced-behind-requires-2 c =
    let fits =
    second_fits c.args.frame.now c.args.changed.now _ c.requires.0 c.requires.1 refl
    c.put_spaced-behind.ensures (c.put-behind.ensures.value, c.put-behind.ensures.output) in
    record { s_nonzero = fits.0; s_in_bounds = fits.1 }

pub returns : goal.returns
returns c =
    line_is c.args.frame.now c.args.changed.now _ c.requires.0 c.requires.1 refl
    c.put_spaced-behind.ensures (c.put-behind.ensures.value, c.put-behind.ensures.output) c.put_spaced-behind-2.ensures (c.put.ensures.value, c.put.ensures.output)
