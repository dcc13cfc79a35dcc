-- What a trial is, and what a table of trials says.
-- Assumes nothing.
use Rattle.std.specs.Prelude.{◌≡◌, List, [], ◌∷◌}

-- a trial: the answer that a definition gives, and the one that is expected
pub record Trial : Type 1 where
  pub Answer : Type 0
  pub given : Answer
  pub expected : Answer

infix 70 ◌gives◌
-- the trial that one answer is the other
abbrev pub ◌gives◌ : {A : Type 0} → A → A → Trial
◌gives◌ {A} x y = record { Answer = A; given = x; expected = y }

-- a trial holds where what is given is what is expected
abbrev pub Holds : Trial → Type 0
Holds t = t.given ≡ t.expected

-- each trial of a table holds
abbrev pub EachHolds : List Trial → Type 0
EachHolds [] = Unit {0}
EachHolds (t ∷ table) = Holds t × EachHolds table
