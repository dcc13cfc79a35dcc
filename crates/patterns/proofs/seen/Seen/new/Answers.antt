-- `patterns::seen::Seen::new` meets its contract: each part is that of the frame.
-- Assumes nothing.
use Rattle.patterns.specs.Entries.{entries}
use Rattle.patterns.proofs.seen.Seen.new.Goals as goal

pub returns : goal.returns
unfolding entries
returns c =
    rw (c.padding.ensures, c.text_part.ensures.texts, c.has_zeros.ensures, c.has_sequence.ensures)
