-- `text::digits` meets its contract: those that are there, and those of what is left of the number, are all.
-- Assumes nothing.
use Rattle.std.proofs.Common.{◌≡◌, ◌++◌, length, drop}
use Rattle.text.specs.Text.{hexadecimal}
use Rattle.text.proofs.digits.Given as goal

abbrev pub invariant-loop-k : goal.invariant-loop-k
invariant-loop-k g l = (length l.digits ≡ g.row.N) × (hexadecimal l.k l.rest ++ drop l.k l.digits ≡ hexadecimal g.row.N l.n)
