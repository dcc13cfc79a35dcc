-- The example's log with octets lost at its front: each row of the table is what is promised of every torn log.
-- Assumes nothing.
use mathlib.Core.Path.{◌≡◌, refl, subst}
use mathlib.Core.Bool.{true}
use mathlib.Core.List.{List, [], ◌∷◌, map}
use Prim.Native.Nat.{ℕ, ◌+◌, ◌-◌}
use native.Mathlib.Omega.{arith}
use borrow.Author.Tests.{leb-true}
use lib.Dec.{leb}
use lib.ListN.{length, take, drop}
use lib.Seq.{take-take}
use Rattle.log_record.specs.Record.{Entry, time_octets, kind_octet, record_octets}
use Rattle.log_reading.specs.Reading.{Listed, count_answer}
use Rattle.log_reading.specs.Written.{log_of, records_of, ReadsAs}
use Rattle.log_reading.specs.Torn.{starting_from, starts_at, answer_behind, whole_records, whole_entries, torn_octets, none_torn, last_answer, rest}
use Rattle.log_reading.specs.Example.{entries, behind}
use Rattle.log_reading.specs.Cuts.{Cut, cuts, ReadsCut, ReadsCuts}
use Rattle.log_reading.proofs.Reading.{counts_back}
use Rattle.log_reading.proofs.Torn.{reads_torn}
use Rattle.log_reading.proofs.Examples.{written}

-- a row, where what is promised computes to what it says
module _ (x : Cut) (within : leb x.lost 23 ≡ true) (gives : rest x.lost entries ≡ x.gives)
    (whole : whole_entries x.lost entries ≡ take (length x.gives.records) entries) where
  reads_cut : (log : List ℕ) → take (23 - x.lost) log ≡ take (23 - x.lost) (drop x.lost behind) → ReadsCut log (23 - x.lost) x
  reads_cut log same =
      let end = 23 - x.lost in
      let all : x.lost + end ≡ 23 = omega (arith, leb-true x.lost 23 within) in
      subst (λ (l : Listed). ReadsAs log end l (take (length x.gives.records) entries) (count_answer log end)) gives
      (subst (λ (es : List Entry). ReadsAs log end (rest x.lost entries) es (count_answer log end)) whole (reads_torn log end (counts_back log end refl) behind entries x.lost (rw all written) same))

-- in the buffer's part and in a copy
reads_cuts : (xs : List Cut) → map (λ (x : Cut). leb x.lost 23) xs ≡ map (λ (x : Cut). true) xs
    → map (λ (x : Cut). rest x.lost entries) xs ≡ map (λ (x : Cut). x.gives) xs
    → map (λ (x : Cut). whole_entries x.lost entries) xs ≡ map (λ (x : Cut). take (length x.gives.records) entries) xs → ReadsCuts xs
reads_cuts [] within gives whole = tt
reads_cuts (x ∷ xs) within gives whole =
    let end = 23 - x.lost in
    let part = drop x.lost behind in
    let reads = reads_cut x (cc) (cc) (cc) in
    ((reads part refl, reads (take end part) (take-take end end part (omega arith))), reads_cuts xs (cc) (cc) (cc))

pub cuts_read : ReadsCuts cuts
unfolding log_of records_of record_octets time_octets kind_octet whole_records whole_entries torn_octets none_torn last_answer answer_behind starting_from starts_at
cuts_read = reads_cuts cuts refl refl refl
