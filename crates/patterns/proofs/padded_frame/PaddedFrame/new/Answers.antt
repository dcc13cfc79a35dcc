-- `patterns::padded_frame::PaddedFrame::new` meets its contract: the padding is that of the state after all octets.
-- Assumes nothing.
use mathlib.Core.Path.{◌≡◌}
use native.Mathlib.Omega.{arith}
use Rattle.padding.specs.Padding.{padding_length}
use Rattle.patterns.proofs.Paddings.{padding_le}
use Rattle.patterns.proofs.padded_frame.PaddedFrame.new.Goals as goal

pub invariant_of-result : goal.invariant_of-result
invariant_of-result c =
    let s = c.args.frame.now in
    let is : c.padding_length.result ≡ padding_length s = c.padding_length.ensures.padding s c.state_after.ensures in
    record { short = c.requires; is_padding = is; inside = omega (arith, padding_le s) }
