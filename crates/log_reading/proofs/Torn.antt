-- Reading what is left of a log that was written by appending and has lost octets at its front.
-- Assumes nothing.
use mathlib.Core.Path.{◌≡◌, refl, sym, ap, ap₂, ◌∙◌}
use mathlib.Core.Bool.{Bool, true, false}
use mathlib.Core.List.{List, [], ◌∷◌, ◌++◌, map}
use Prim.Native.Nat.{ℕ, zero, suc, ◌+◌, ◌-◌, ◌≤◌, ◌<◌}
use native.Mathlib.Omega.{arith}
use borrow.Author.Tests.{leb-true, leb-false, lt-leb, ne_eqb}
use lib.Dec.{leb, eqb}
use lib.ListN.{length, take, drop, length-take, length-drop}
use lib.Seq.{take-take, take_at, take-add, drop_at, drop-append-le, drop-append-add, length-take-le}
use Rattle.std.specs.Prelude.{Some, Ok}
use Rattle.log_record.specs.Kind.{kind_number}
use Rattle.log_record.specs.Record.{Entry, record_octets}
use Rattle.log_record.specs.Read.{log_record, read_record, payload_in}
use Rattle.log_record.proofs.KindNumbers.{number_back}
use Rattle.log_record.proofs.Read.{at_start, no_trailer, none_read}
use Rattle.log_record.proofs.Ends.{read_there, payload_there}
use Rattle.log_record.proofs.Torn.{torn_there}
use Rattle.log_reading.specs.Reading.{Back, counted, CountsBack}
use Rattle.log_reading.specs.Reading.Back.{start, refused, next}
use Rattle.log_reading.specs.Written.{log_of, records_of, entry_in}
use Rattle.log_reading.specs.Torn.{starting_from, answer_behind, whole_records, whole_entries, none_torn, last_answer, rest, ReadsTorn}
use Rattle.log_reading.specs.declared.RecordsCounted.{RecordsCounted}
use Rattle.log_reading.proofs.Holds.{Taken, holds}
use Rattle.log_reading.proofs.Whole.{log_size, one_more, entry_more, last_same, none_whole, no_entry, last_is}

module _ (log : List ℕ) where
  -- what is read of a record that has lost octets, where nothing stands before the rest of it
  front_read : (e : Entry) (more end : ℕ) → end ≤ length log → take end log ≡ drop more (record_octets e.kind e.time e.payload) → Taken (e ∷ []) → 0 < more
      → Back log end [] (answer_behind (eqb end 0) end)
  unfolding answer_behind
  front_read e more zero fits octets taken some = start (sym (at_start log refl))
  front_read e more (suc zero) fits octets taken some = refused (sym (none_read log 1 (omega arith) fits (no_trailer log 1 (omega arith)) refl))
  front_read e more (suc (suc zero)) fits octets taken some = refused (sym (none_read log 2 (omega arith) fits (no_trailer log 2 (omega arith)) refl))
  front_read e more (suc (suc (suc n))) fits octets taken some =
      let end = suc (suc (suc n)) in
      rw (ne_eqb end 0 (λ none. omega arith), lt-leb end 2 (omega arith))
      (refused (sym (torn_there log e.kind e.time e.payload more end fits octets taken.0.0 taken.0.1 some (omega arith))))

  -- the calls back from an end give the rest, with its entries
  abbrev Gives : ℕ → List Entry → ℕ → Type 0
  Gives lost es end = Back log end (rest lost es).records (rest lost es).last × (map (entry_in log) (rest lost es).records ≡ whole_entries lost es)

  -- so they do from an end before which the octets of the rest stand
  abbrev GivesRest : ℕ → List Entry → Type 0
  GivesRest lost es =
      (end : ℕ) → end ≤ length log → lost + end ≡ length (log_of es) → take end log ≡ drop lost (log_of es) → Gives lost es end

  -- of no entries
  gives_none : (lost : ℕ) → GivesRest lost []
  unfolding whole_records whole_entries last_answer answer_behind none_torn starting_from records_of log_of
  gives_none lost end fits all octets =
      let none : lost ≡ 0 = omega arith in
      let here : end ≡ 0 = omega arith in
      rw (none, here) (start (sym (at_start log refl)), refl)

  module _ (lost : ℕ) (e : Entry) (es : List Entry) (taken : Taken (e ∷ es)) where
    -- where the newest record is whole
    gives_more : lost ≤ length (log_of es) → GivesRest lost es → GivesRest lost (e ∷ es)
    unfolding log_of
    gives_more whole on end fits all octets =
        let older = drop lost (log_of es) in
        let added = record_octets e.kind e.time e.payload in
        let size : length older ≡ length (log_of es) - lost = length-drop lost (log_of es) in
        let two : take end log ≡ older ++ added = octets ∙ drop-append-le lost (log_of es) added whole in
        let x = log_record e.kind e.time (length (log_of es) - lost) (length e.payload) in
        let read : read_record log end ≡ Ok (Some x)
        = rw size at (read_there log older e.kind e.time e.payload end fits two taken.0.0 taken.0.1) in
        let payload : payload_in log x ≡ e.payload = rw size at (payload_there log older e.kind e.time e.payload end fits two) in
        let before : take (length (log_of es) - lost) log ≡ older
        = sym (take-take (length (log_of es) - lost) end log (omega (arith, log_size e es)))
        ∙ ap (λ (l : List ℕ). take (length (log_of es) - lost) l) two
        ∙ take_at older added (length (log_of es) - lost) size in
        let back = on (length (log_of es) - lost) (omega (arith, log_size e es)) (omega arith) before in
        rw (one_more lost e es whole, entry_more lost e es whole, last_same lost e es whole) (
          next read back.0,
          ap₂ (λ (p : List ℕ) (l : List Entry). record { kind = kind_number x.kind; time = e.time; payload = p } ∷ l) payload back.1
              ∙ ap (λ (k : ℕ). record { kind = k; time = e.time; payload = e.payload } ∷ whole_entries lost es) (number_back e.kind taken.0.0),
        )

    -- where it is torn, or nothing is left of it
    gives_torn : length (log_of es) < lost → GivesRest lost (e ∷ es)
    unfolding log_of
    gives_torn torn end fits all octets =
        let added = record_octets e.kind e.time e.payload in
        let more = lost - length (log_of es) in
        let is : lost ≡ length (log_of es) + more = omega arith in
        let part : take end log ≡ drop more added
        = octets ∙ ap (λ (k : ℕ). drop k (log_of es ++ added)) is ∙ drop-append-add (log_of es) added more in
        rw (none_whole lost e es end torn all, no_entry lost e es end torn all, last_is lost e es end torn all)
        (front_read e more end fits part (taken.0, tt) (omega arith), refl)

    gives_either : (b : Bool) → leb lost (length (log_of es)) ≡ b → GivesRest lost es → GivesRest lost (e ∷ es)
    gives_either true is on = gives_more (leb-true lost (length (log_of es)) is) on
    gives_either false is on = gives_torn (leb-false lost (length (log_of es)) is)

  gives : (lost : ℕ) (es : List Entry) → Taken es → GivesRest lost es
  gives lost [] taken = gives_none lost
  gives lost (e ∷ es) taken = gives_either lost e es taken (leb lost (length (log_of es))) refl (gives lost es taken.1)

-- so it is of every log that has the octets of the rest up to the end
pub reads_torn : (log : List ℕ) (end : ℕ) {r : RecordsCounted} → CountsBack log end r → ReadsTorn log end r
reads_torn log end counts buffer es lost w same =
    let octets : take end log ≡ take end (drop lost buffer) = cc in
    let h = holds buffer (lost + end) es w in
    let behind : drop lost (take (lost + end) buffer) ≡ take end (drop lost buffer)
    = ap (drop lost) (take-add lost end buffer) ∙ drop_at (take lost buffer) (take end (drop lost buffer)) lost (length-take-le lost buffer (omega (arith, h.fits))) in
    let fits : end ≤ length log
    = omega (arith, h.fits, ap length octets, length-take end log, length-take end (drop lost buffer), length-drop lost buffer) in
    let size : lost + end ≡ length (log_of es) = omega (arith, ap length h.octets, length-take-le (lost + end) buffer h.fits) in
    let all = gives log lost es h.taken end fits size (octets ∙ sym behind ∙ ap (drop lost) h.octets) in
    let is : rest lost es ≡ counts.0 = counts.1.only (rest lost es) all.0 in
    record { read = rw is counts.1; entries = all.1; count = counts.2 ∙ ap counted (sym is) }
