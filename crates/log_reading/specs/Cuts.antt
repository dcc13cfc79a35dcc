-- The example's log with octets lost at its front, and what is read of the rest.
-- Assumes nothing.
use Rattle.std.specs.Prelude.{ℕ, ◌-◌, List, [], ◌∷◌, length, take, drop, Ok}
use Rattle.octets.specs.Refusal.{refused}
use Rattle.log_record.specs.declared.LogRecord.{LogRecord}
use Rattle.log_reading.specs.Reading.{Last, Listed, count_answer}
use Rattle.log_reading.specs.Written.{ReadsAs}
use Rattle.log_reading.specs.Example.{entries, behind, bus_at, ip_at, ethernet_at}

-- so many octets are lost, and reading the rest gives these records, then this answer
pub record Cut : Type 0 where
  pub lost : ℕ
  pub gives : Listed

abbrev pub cut : ℕ → List LogRecord → Last → Cut
cut i xs a = record { lost = i; gives = record { records = xs; last = a } }

-- none are lost; a trailer, two octets and one are left of the bus record; a cut between two records; in the payload and in the time of
-- the IP record; a trailer, two octets and one are left of that; between two records; all are lost
abbrev pub cuts : List Cut
cuts =
    cut 0 (ethernet_at 13 ∷ ip_at 4 ∷ bus_at 0 ∷ []) (Ok tt)
    ∷ cut 1 (ethernet_at 12 ∷ ip_at 3 ∷ []) (refused 44)
    ∷ cut 2 (ethernet_at 11 ∷ ip_at 2 ∷ []) (refused 41)
    ∷ cut 3 (ethernet_at 10 ∷ ip_at 1 ∷ []) (refused 41)
    ∷ cut 4 (ethernet_at 9 ∷ ip_at 0 ∷ []) (Ok tt)
    ∷ cut 5 (ethernet_at 8 ∷ []) (refused 44)
    ∷ cut 8 (ethernet_at 5 ∷ []) (refused 44)
    ∷ cut 10 (ethernet_at 3 ∷ []) (refused 44)
    ∷ cut 11 (ethernet_at 2 ∷ []) (refused 41)
    ∷ cut 12 (ethernet_at 1 ∷ []) (refused 41)
    ∷ cut 13 (ethernet_at 0 ∷ []) (Ok tt)
    ∷ cut 23 [] (Ok tt)
    ∷ []

-- so it is read from an end of a log: the newest entries
abbrev pub ReadsCut : List ℕ → ℕ → Cut → Type 0
ReadsCut log end x = ReadsAs log end x.gives (take (length x.gives.records) entries) (count_answer log end)

-- in the buffer's own part, behind whose end there is more, and in a copy that has no more
abbrev pub ReadsCuts : List Cut → Type 0
ReadsCuts [] = Unit {0}
ReadsCuts (x ∷ xs) =
    let end = 23 - x.lost in
    let part = drop x.lost behind in
    (ReadsCut part end x × ReadsCut (take end part) end x) × ReadsCuts xs
