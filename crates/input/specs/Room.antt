-- What holds of a reading's answer, whatever comes.
-- Assumes nothing.
use Rattle.std.specs.Prelude.{ℕ, ◌<◌, ◌≡◌, Result, Ok, Err}
use Rattle.input.specs.declared.InputRead.{InputRead}
use Rattle.input.specs.declared.InputRead.TheVariants.{Full, Ended}

-- full: as many octets as there is room for; ended: fewer
abbrev pub Reads : {E : Type 0} → Result InputRead E → ℕ → Type 0
Reads (Ok (Full n)) room = n ≡ room
Reads (Ok (Ended n)) room = n < room
Reads (Err e) room = Unit {0}
