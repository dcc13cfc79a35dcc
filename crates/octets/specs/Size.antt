-- The size that statistics, patterns and the finder take.
-- Assumes nothing.
use Rattle.std.specs.Prelude.{ℕ, Bool, List, leb, length}
use Rattle.octets.specs.Question.{Question, ask}

-- a count of at most 65,535
abbrev pub at_most_65535 : ℕ → Bool
at_most_65535 n = leb n 65535

-- question 31: at most 65,535 octets?
abbrev pub size_question : List ℕ → Question
size_question s = ask 31 (at_most_65535 (length s))
