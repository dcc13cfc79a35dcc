-- The whole reading of a log: its calls end, it is what the calls give, and the loop that counts follows it.
-- Assumes nothing.
use mathlib.Core.Path.{◌≡◌, refl, sym, ap, ◌∙◌}
use mathlib.Core.List.{List, []}
use Prim.Native.Nat.{ℕ, zero, suc, ◌+◌, ◌≤◌, ◌<◌}
use native.Mathlib.Omega.{arith}
use lib.ListN.{length}
use Rattle.std.specs.Prelude.{Option, Some, None, Result, Ok, Err}
use Rattle.octets.specs.declared.refusal.Refusal.{Refusal}
use Rattle.log_record.specs.Read.{read_record}
use Rattle.log_reading.specs.Reading.{Last, Back, Listed, WholeBack, and_then, and_on, within_calls, listed, count_answer, CountsBack}
use Rattle.log_reading.specs.Reading.Back.{start, refused, next}
use Rattle.log_record.specs.declared.LogRecord.{LogRecord}
use Rattle.log_reading.specs.declared.RecordsCounted.{RecordsCounted}
use Rattle.log_record.proofs.Read.{at_start}
use Rattle.log_record.proofs.Ends.{trailer_read}

-- what an answer gives depends on the calls from its start back alone
and_same : (a : Result (Option LogRecord) Refusal) (f g : ℕ → Listed) → ((x : LogRecord) → a ≡ Ok (Some x) → f x.start ≡ g x.start) → and_on a f ≡ and_on a g
and_same (Ok (Some x)) f g same = ap (and_then x) (same x refl)
and_same (Ok None) f g same = refl
and_same (Err q) f g same = refl

-- records counted, and those of a list
abbrev more : ℕ → Listed → RecordsCounted
more count l = record { count = count + length l.records; last = l.last }

module _ (log : List ℕ) where
  -- a record starts before its end
  pub starts_before : (end : ℕ) {x : LogRecord} → read_record log end ≡ Ok (Some x) → x.start < end
  starts_before end {x} e = omega (arith, (trailer_read log end x e).ends)

  -- at end 0 no question fails
  pub refused_above : (end : ℕ) {e : Refusal} → read_record log end ≡ Err e → 0 < end
  refused_above zero e = let start = at_start log {end = 0} refl in cc
  refused_above (suc n) e = omega arith

  -- more calls than octets give the same
  within_calls_same : (n m end : ℕ) → end < n → end < m → within_calls log n end ≡ within_calls log m end
  unfolding within_calls
  within_calls_same zero m end h k = absurd (omega arith)
  within_calls_same (suc n) zero end h k = absurd (omega arith)
  within_calls_same (suc n) (suc m) end h k =
      and_same (read_record log end) (within_calls log n) (within_calls log m) (λ x e. let b = starts_before end e in within_calls_same n m x.start (omega arith) (omega arith))

  -- a whole reading is its first call and the reading from there back
  pub listed_on : (end : ℕ) → listed log end ≡ and_on (read_record log end) (listed log)
  unfolding listed within_calls
  listed_on end =
      and_same (read_record log end) (within_calls log end) (listed log) (λ x e. let b = starts_before end e in within_calls_same end (suc x.start) x.start (omega arith) (omega arith))

  pub listed_next : (end : ℕ) {x : LogRecord} → read_record log end ≡ Ok (Some x) → listed log end ≡ and_then x (listed log x.start)
  listed_next end e = listed_on end ∙ ap (λ (a : Result (Option LogRecord) Refusal). and_on a (listed log)) e

  pub listed_last : (end : ℕ) {a : Result (Option LogRecord) Refusal} {last : Last} → read_record log end ≡ a → and_on a (listed log) ≡ record { records = []; last = last }
      → listed log end ≡ record { records = []; last = last }
  listed_last end e none = listed_on end ∙ ap (λ (a : Result (Option LogRecord) Refusal). and_on a (listed log)) e ∙ none

  -- it is what the calls give
  pub back : (n end : ℕ) → end < n → Back log end (listed log end).records (listed log end).last
  back zero end h = absurd (omega arith)
  back (suc n) end h = by (read_record log end) refl (λ k less. back n k (omega arith))
    where
      by : (a : Result (Option LogRecord) Refusal) → read_record log end ≡ a → ((k : ℕ) → k < end → Back log k (listed log k).records (listed log k).last)
          → Back log end (listed log end).records (listed log end).last
      by (Ok (Some x)) e on = rw (listed_next end e) (next e (on x.start (starts_before end e)))
      by (Ok None) e on = rw (listed_last end e refl) (start e)
      by (Err q) e on = rw (listed_last end e refl) (refused e)

  -- and nothing else is
  only : (end : ℕ) {xs : List LogRecord} {a : Last} → Back log end xs a → record { records = xs; last = a } ≡ listed log end
  only end (start e) = sym (listed_last end e refl)
  only end (refused e) = sym (listed_last end e refl)
  only end (next {x = x} e b) = ap (and_then x) (only x.start b) ∙ sym (listed_next end e)

  pub whole_back : (end : ℕ) → WholeBack log end (listed log end)
  whole_back end = record { read = back (suc end) end (omega arith); only = λ others b. let same = only end b in cc }

  pub counts_back : (end : ℕ) {r : RecordsCounted} → r ≡ count_answer log end → CountsBack log end r
  unfolding count_answer
  counts_back end e = (listed log end, whole_back end, e)

  -- a loop over the records from an end: those that it has counted and those of the calls from here are all
  pub record Past (end count at : ℕ) : Type 0 where
    pub few : count + at ≤ end
    pub all : more count (listed log at) ≡ count_answer log end

  pub past_start : (end : ℕ) → Past end 0 end
  unfolding count_answer
  past_start end = record { few = omega arith; all = let none : 0 + length (listed log end).records ≡ length (listed log end).records = omega arith in rw none }

  pub past_next : (end count at : ℕ) {x : LogRecord} → read_record log at ≡ Ok (Some x) → Past end count at → Past end (count + 1) x.start
  past_next end count at {x} e p =
      let one : count + 1 + length (listed log x.start).records ≡ count + suc (length (listed log x.start).records) = omega arith in
      record {
        few = omega (arith, starts_before at e, p.few);
        all = rw one (sym (ap (more count) (listed_next at e)) ∙ p.all);
      }

  -- the answer that is no record ends it
  pub past_last : (end count at : ℕ) {a : Result (Option LogRecord) Refusal} {last : Last} → read_record log at ≡ a → and_on a (listed log) ≡ record { records = []; last = last }
      → Past end count at → ◌≡◌ {A = RecordsCounted} (record { count = count; last = last }) (count_answer log end)
  past_last end count at {a} e none p =
      let none_left : count + 0 ≡ count = omega arith in
      rw none_left at (sym (ap (more count) (listed_last at e none)) ∙ p.all)
