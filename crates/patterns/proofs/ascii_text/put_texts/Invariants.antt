-- `patterns::ascii_text::put_texts` meets its contract: each turn puts the text at `start`, if one is there, and goes on behind an octet that is in no text.
-- Assumes nothing.
use Prim.Native.Nat.{◌-◌}
use lib.ListN.{length}
use Rattle.patterns.proofs.Stores.{Walked}
use Rattle.patterns.proofs.ascii_text.put_texts.Given as goal

abbrev pub invariant-loop-start : goal.invariant-loop-start
invariant-loop-start l = Walked l.frame l.initial.out l.at l.start l.out l.here

abbrev pub decreases-loop-start : goal.decreases-loop-start
decreases-loop-start l = length l.frame - l.start
