-- The lines of a log: those of the calls from an end back, and how many octets they have.
-- Assumes nothing.
use mathlib.Core.Path.{◌≡◌, refl, sym, ap, subst, ◌∙◌}
use mathlib.Core.Bool.{Bool, true, false, cond}
use mathlib.Core.List.{List, [], ◌∷◌, ◌++◌, append_assoc, append-nil, flat_map}
use Prim.Native.Nat.{ℕ, suc, ◌+◌, ◌-◌, ◌*◌, ◌≤◌, ◌<◌}
use native.Mathlib.Omega.{arith}
use lib.Dec.{eqb, leb}
use lib.ListN.{length, drop, length-append, length-take}
use Rattle.std.specs.Prelude.{Option, Some, None, Result, Ok, Err}
use Rattle.octets.specs.Refusal.{refusal_number}
use Rattle.octets.specs.declared.refusal.Refusal.{Refusal}
use Rattle.octets.proofs.Parts.{Octets, octets_take, octets_drop}
use Rattle.octets.proofs.Ranges.{within_true}
use Rattle.octets.specs.Put.{Put}
use Rattle.octets.proofs.Puts.{Putting, putting_room, putting_next, putting_end}
use Rattle.log_record.specs.declared.LogRecord.{LogRecord}
use Rattle.log_record.specs.Kind.{kind_number}
use Rattle.log_record.specs.Record.{time_octets}
use Rattle.log_record.specs.Read.{timed, octet_before, second_before, time_before, read_question, record_before, read_record, payload_in, trailer_questions}
use Rattle.log_reading.specs.Reading.{Last, Back, Listed, and_then, and_on, listed}
use Rattle.log_reading.specs.Reading.Back.{start, refused, next}
use Rattle.log_record.proofs.Ends.{trailer_read}
use Rattle.log_reading.proofs.Reading.{listed_next, listed_last, back}
use Rattle.text.specs.Text.{letters, field}
use Rattle.log_listing.specs.Listing.{line_of, last_line, lines, log_lines}
use Rattle.text.proofs.Decimals.{length_field}
use Rattle.log_listing.proofs.Records.{TenDigits, line_most}

-- the number of a refusal has two digits at most
two_digits : (refusal : Refusal) → refusal_number refusal < 100
two_digits refusal = grind arith

-- a second that was read has at most ten digits
ten_digits : (log : List ℕ) → Octets log → (end : ℕ) → TenDigits (time_before log end)
unfolding time_before
ten_digits log octets end = by (timed (octet_before log end))
  where
    by : (b : Bool) → TenDigits (cond b (Some (second_before log end)) None)
    by true = omega (arith, octets (end - 7), octets (end - 6), octets (end - 5), octets (end - 4))
    by false = tt

module _ (log : List ℕ) where
  -- the last line has at most 11 octets
  last_most : (last : Last) → length (last_line last) ≤ 11
  last_most (Ok done) = omega arith
  last_most (Err refusal) =
      omega (arith, length_field 1 (refusal_number refusal) (two_digits refusal), length-append (field (refusal_number refusal)) (letters "\n"))

  -- a record that was read: its line has at most six octets for each that it takes of the log
  module _ (end : ℕ) {x : LogRecord} (e : read_record log end ≡ Ok (Some x)) where
    pub payload_most : length (payload_in log x) ≤ 1514
    payload_most = omega (arith, length-take x.length (drop x.start log), (within_true 1 1514 x.length (trailer_read log end x e).sized).1)

    record_most : Octets log → length (line_of log x) ≤ 23 + 3 * length (time_octets x.time)
    record_most octets =
        line_most (kind_number x.kind) x.time (payload_in log x) (octets_take x.length (drop x.start log) (octets_drop x.start log octets)) (within_true 1 3 (kind_number x.kind) (trailer_read log end x e).known).1
        (subst TenDigits (trailer_read log end x e).time (ten_digits log octets end)) payload_most

    takes : x.start + (4 + length (time_octets x.time)) ≤ end
    takes = let t = trailer_read log end x e in omega (arith, t.ends, (within_true 1 1514 x.length t.sized).0)

  -- a record's line is before those behind it
  lines_then : (x : LogRecord) (l : Listed) → lines log (and_then x l) ≡ line_of log x ++ lines log l
  unfolding lines flat_map
  lines_then x l = append_assoc (line_of log x) (flat_map (line_of log) l.records) (last_line l.last)

  -- so the lines from an end on are that of its record and those from the record's start on
  lines_next : (end : ℕ) {x : LogRecord} → read_record log end ≡ Ok (Some x) → lines log (listed log end) ≡ line_of log x ++ lines log (listed log x.start)
  lines_next end {x} e = ap (lines log) (listed_next log end e) ∙ lines_then x (listed log x.start)

  -- without records there is the last line alone
  lines_none : (a : Last) → lines log (record { records = []; last = a }) ≡ last_line a
  unfolding lines flat_map
  lines_none a = refl

  lines_last : (end : ℕ) {a : Result (Option LogRecord) Refusal} {last : Last} → read_record log end ≡ a → and_on a (listed log) ≡ record { records = []; last = last }
      → lines log (listed log end) ≡ last_line last ++ []
  lines_last end {a} {last} e none = ap (lines log) (listed_last log end e none) ∙ lines_none last ∙ sym (append-nil (last_line last))

  -- six octets for each of the log, and eleven, are enough for the lines of what the calls give
  back_most : Octets log → {end : ℕ} {xs : List LogRecord} {a : Last} → Back log end xs a → length (lines log (record { records = xs; last = a })) ≤ 6 * end + 11
  back_most octets {end} (start e) = omega (arith, last_most (Ok tt), ap length (lines_none (Ok tt)))
  back_most octets {end} (refused {refusal = q} e) = omega (arith, last_most (Err q), ap length (lines_none (Err q)))
  back_most octets {end} (next {x = x} {xs = xs} {last = a} e on) =
      let rest : Listed = record { records = xs; last = a } in
      omega (arith, takes end e, record_most end e octets, back_most octets on, ap length (lines_then x rest), length-append (line_of log x) (lines log rest))

  pub lines_most : Octets log → length (log_lines log) ≤ 6 * length log + 11
  lines_most octets = back_most octets (back log (suc (length log)) (length log) (omega arith))

-- a loop that puts the lines: what was put so far, and the lines from an end on, are all
module _ (log before : List ℕ) where
  abbrev pub Going : List ℕ → ℕ → ℕ → Type 0
  Going out end at = Putting (log_lines log) before 0 (lines log (listed log end)) out at

  module _ (room : length (log_lines log) ≤ length before) {out : List ℕ} (end : ℕ) {at : ℕ} (so : Going out end at) where
    coming : {l : List ℕ} → lines log (listed log end) ≡ l → Putting (log_lines log) before 0 l out at
    coming e = subst (λ (l : List ℕ). Putting (log_lines log) before 0 l out at) e so

    -- the line of a record is next
    module _ {x : LogRecord} (e : read_record log end ≡ Ok (Some x)) where
      pub line_room : at + length (line_of log x) ≤ length out
      line_room = putting_room (line_of log x) (lines log (listed log x.start)) (coming (lines_next log end e)) (omega arith)

      pub line_put : {after : List ℕ} {n : ℕ} → Put (line_of log x) out at after n → Going after x.start n
      line_put = putting_next (line_of log x) (lines log (listed log x.start)) (coming (lines_next log end e))

    -- or, where the answer is no record, the last line
    module _ {a : Result (Option LogRecord) Refusal} {last : Last} (e : read_record log end ≡ a) (none : and_on a (listed log) ≡ record { records = []; last = last }) where
      pub last_room : at + length (last_line last) ≤ length out
      last_room = putting_room (last_line last) [] (coming (lines_last log end e none)) (omega arith)

      pub last_put : {after : List ℕ} {n : ℕ} → Put (last_line last) out at after n → Put (log_lines log) before 0 after n
      last_put put = putting_end (putting_next (last_line last) [] (coming (lines_last log end e none)) put)
