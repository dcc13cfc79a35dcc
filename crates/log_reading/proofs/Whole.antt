-- Which records are whole behind the lost octets, and the answer behind them, by the newest record.
-- Assumes nothing.
use mathlib.Core.Path.{◌≡◌, refl, ap₂, ◌∙◌}
use mathlib.Core.Bool.{Bool, true, false, ◌||◌}
use mathlib.Core.List.{List, [], ◌∷◌}
use Prim.Native.Nat.{ℕ, ◌+◌, ◌≤◌, ◌<◌}
use native.Mathlib.Omega.{arith}
use borrow.Author.Tests.{eqb-true, eqb-false, le-leb, lt-leb, eq-eqb, ne_eqb}
use lib.Dec.{eqb}
use lib.ListN.{length, length-append}
use Rattle.log_record.specs.Record.{Entry, time_octets, record_octets}
use Rattle.log_record.specs.Read.{log_record}
use Rattle.log_record.specs.declared.LogRecord.{LogRecord}
use Rattle.log_append.proofs.Appends.{record_size}
use Rattle.log_reading.specs.Written.{log_of, records_of}
use Rattle.log_reading.specs.Torn.{starting_from, starts_at, answer_behind, whole_records, whole_entries, torn_octets, none_torn, last_answer}

-- how many octets a log of one more entry has
pub log_size : (e : Entry) (es : List Entry) → length (log_of (e ∷ es)) ≡ length (log_of es) + (length e.payload + (length (time_octets e.time) + 3))
unfolding log_of
log_size e es =
    omega (arith, length-append (log_of es) (record_octets e.kind e.time e.payload), record_size e.kind e.time e.payload)

-- its newest record
abbrev pub newest : Entry → List Entry → LogRecord
newest e es = log_record e.kind e.time (length (log_of es)) (length e.payload)

-- a record that starts at a place or later, and one that starts before it
module _ (place : ℕ) (x : LogRecord) (xs : List LogRecord) where
  from_there : place ≤ x.start → starting_from place (x ∷ xs) ≡ x ∷ starting_from place xs
  unfolding starting_from
  from_there h = rw (le-leb place x.start h)

  from_before : x.start < place → starting_from place (x ∷ xs) ≡ starting_from place xs
  unfolding starting_from
  from_before h = rw (lt-leb place x.start h)

  not_there : x.start < place → starts_at place (x ∷ xs) ≡ starts_at place xs
  unfolding starts_at
  not_there h = rw (ne_eqb place x.start (λ same. omega arith))

-- all records start before the end of the log
module _ (place : ℕ) where
  none_from : (es : List Entry) → length (log_of es) ≤ place → starting_from place (records_of es) ≡ []
  unfolding starting_from records_of
  none_from [] h = refl
  none_from (e ∷ es) h = let size = log_size e es in from_before place (newest e es) (records_of es) (omega arith) ∙ none_from es (omega arith)

  none_there : (es : List Entry) → length (log_of es) ≤ place → starts_at place (records_of es) ≡ false
  unfolding starts_at records_of
  none_there [] h = refl
  none_there (e ∷ es) h = let size = log_size e es in not_there place (newest e es) (records_of es) (omega arith) ∙ none_there es (omega arith)

-- of some tests one fails, or all but one
or_skip : (a b c d : Bool) → b ≡ false → (a || b || (c || d)) ≡ (a || c || d)
or_skip true b c d e = refl
or_skip false b c d e = rw e

or_only : (a b c : Bool) → a ≡ false → c ≡ false → (a || b || c) ≡ b
or_only a true c e f = rw e
or_only a false c e f = rw (e, f)

-- a record behind the lost octets stays whole, and the answer is that of the older ones
module _ (lost : ℕ) (e : Entry) (es : List Entry) (whole : lost ≤ length (log_of es)) where
  pub one_more : whole_records lost (e ∷ es) ≡ newest e es ∷ whole_records lost es
  unfolding whole_records records_of
  one_more = from_there _ _ _ (omega arith)

  pub entry_more : whole_entries lost (e ∷ es) ≡ e ∷ whole_entries lost es
  unfolding whole_entries
  entry_more = rw one_more

  none_same : none_torn lost (e ∷ es) ≡ none_torn lost es
  unfolding none_torn starts_at records_of
  none_same =
      or_skip (eqb lost 0) _ (eqb lost (length (log_of es))) (starts_at lost (records_of es)) (ne_eqb lost (length (log_of (e ∷ es))) (λ same. omega (arith, log_size e es)))

  octets_same : torn_octets lost (e ∷ es) ≡ torn_octets lost es
  unfolding torn_octets
  octets_same = rw entry_more (omega (arith, log_size e es, log_size e (whole_entries lost es)))

  pub last_same : last_answer lost (e ∷ es) ≡ last_answer lost es
  unfolding last_answer
  last_same = ap₂ answer_behind none_same octets_same

-- the newest record is torn, or nothing is left of it: no record is whole
module _ (lost : ℕ) (e : Entry) (es : List Entry) (end : ℕ) (torn : length (log_of es) < lost) (all : lost + end ≡ length (log_of (e ∷ es))) where
  pub none_whole : whole_records lost (e ∷ es) ≡ []
  unfolding whole_records records_of
  none_whole = from_before lost (newest e es) (records_of es) torn ∙ none_from lost es (omega arith)

  pub no_entry : whole_entries lost (e ∷ es) ≡ []
  unfolding whole_entries
  no_entry = rw none_whole

  all_torn : torn_octets lost (e ∷ es) ≡ end
  unfolding torn_octets log_of
  all_torn = rw no_entry (omega arith)

  none_is : none_torn lost (e ∷ es) ≡ eqb end 0
  unfolding none_torn records_of
  none_is =
      or_only _ _ _ (ne_eqb lost 0 (λ same. omega arith)) (not_there lost (newest e es) (records_of es) torn ∙ none_there lost es (omega arith)) ∙ by (eqb end 0) refl
    where
      by : (b : Bool) → eqb end 0 ≡ b → eqb lost (length (log_of (e ∷ es))) ≡ b
      by true is = eq-eqb lost (length (log_of (e ∷ es))) (omega (arith, eqb-true end 0 is))
      by false is = ne_eqb lost (length (log_of (e ∷ es))) (λ same. eqb-false end 0 is (omega arith))

  pub last_is : last_answer lost (e ∷ es) ≡ answer_behind (eqb end 0) end
  unfolding last_answer
  last_is = ap₂ answer_behind none_is all_torn
