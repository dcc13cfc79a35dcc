-- What holds of what came of listing a log that was read, whatever came.
-- Assumes nothing.
use Rattle.std.specs.Prelude.{ℕ, ◌≡◌, List, length, take, Result, Ok, Err}
use Rattle.std.specs.declared.io.Error.{Error}
use Rattle.input.specs.Room.{Reads}
use Rattle.input.specs.declared.InputRead.{InputRead}
use Rattle.input.specs.declared.InputRead.TheVariants.{Full, Ended}
use Rattle.log_listing.specs.Listing.{listing}
use Rattle.log_input.specs.declared.ListError.{ListError}
use Rattle.log_input.specs.declared.ListError.TheVariants.{NotRead, NotWritten}
use Rattle.log_input.specs.declared.Listed.{Listed}

-- what was printed of a log has as many octets as its text, and the log as many as were counted
abbrev pub PrintedOf : List ℕ → Result Listed ListError → Type 0
PrintedOf log (Ok r) = (r.read ≡ length log) × (r.printed ≡ length (listing log))
PrintedOf log (Err NotRead) = ⊥
PrintedOf log (Err NotWritten) = Unit {0}

-- what is printed after a reading: a full room, or the octets at its front before the input ended; nothing where it failed
abbrev pub ListedOf : Result InputRead Error → List ℕ → Result Listed ListError → Type 0
ListedOf (Ok (Full n)) room r = PrintedOf room r
ListedOf (Ok (Ended n)) room r = PrintedOf (take n room) r
ListedOf (Err e) room r = r ≡ Err NotRead

-- what is printed after some reading into a room of 65,537 octets
abbrev pub ListedInput : Result Listed ListError → Type 0
ListedInput r = (read : Result InputRead Error) × (room : List ℕ) × (length room ≡ 65537) × Reads read 65537 × ListedOf read room r
