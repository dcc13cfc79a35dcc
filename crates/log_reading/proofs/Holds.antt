-- Calls of `append` leave the octets of the entries that they have taken.
-- Assumes nothing.
use mathlib.Core.Path.{◌≡◌, refl, ap, ◌∙◌}
use mathlib.Core.Bool.{true}
use mathlib.Core.List.{List, [], ◌∷◌, ◌++◌}
use Prim.Native.Nat.{ℕ, ◌+◌, ◌≤◌}
use native.Mathlib.Omega.{arith}
use borrow.Author.Tests.{leb-true}
use lib.ListN.{length, take}
use Rattle.std.specs.Prelude.{Ok, Err}
use Rattle.octets.specs.Output.{at_front, write_output}
use Rattle.octets.proofs.Questions.{all_yes, answered_value, answered_refused}
use Rattle.octets.proofs.Refusals.{none_failed, one_failed}
use Rattle.log_record.specs.Kind.{known_kind}
use Rattle.log_record.specs.Record.{Entry, allowed_size, time_octets, record_octets}
use Rattle.log_append.specs.Append.{longer, append_questions, append_question, append_answer, append_output}
use Rattle.log_reading.specs.Written.{Written, log_of}
use Rattle.log_reading.specs.Written.Written.{empty, taken, refused}
use Rattle.octets.specs.declared.refusal.Refusal.{Refusal}
use Rattle.log_append.proofs.Appends.{record_size, stands, after_size}

-- entries that appending takes
abbrev pub Taken : List Entry → Type 0
Taken [] = Unit {0}
Taken (e ∷ es) = ((known_kind e.kind ≡ true) × (allowed_size (length e.payload) ≡ true)) × Taken es

-- the octets of entries stand in front of a buffer
pub record Holds (buffer : List ℕ) (used : ℕ) (es : List Entry) : Type 0 where
  pub fits : used ≤ length buffer
  pub octets : take used buffer ≡ log_of es
  pub taken : Taken es

-- a call that takes an entry puts it behind them
holds_taken : (buffer : List ℕ) (used : ℕ) (es : List Entry) (e : Entry) (n : ℕ) → Holds buffer used es
    → append_answer buffer used e.kind e.time e.payload ≡ Ok n → Holds (append_output buffer used e.kind e.time e.payload) n (e ∷ es)
unfolding log_of append_answer append_output write_output append_question append_questions
holds_taken buffer used es e n h answer =
    let asked = none_failed _ _ refl answer in
    let yes = all_yes (append_questions buffer used e.kind e.time e.payload) tt asked.0 in
    let size = record_size e.kind e.time e.payload in
    let room : used + (length e.payload + (length (time_octets e.time) + 3)) ≤ length buffer
    = omega (arith, leb-true (used + length (record_octets e.kind e.time e.payload)) (length buffer) yes.1.1.1.0) in
    let count = asked.1 in
    let m : n ≡ used + (length e.payload + (length (time_octets e.time) + 3)) = omega arith in
    rw (answered_value (λ _. buffer) (at_front (longer buffer used e.kind e.time e.payload) buffer) asked.0, m)
    (record {
      fits = omega (arith, after_size buffer used e.kind e.time e.payload room);
      octets = stands buffer used e.kind e.time e.payload room ∙ ap (λ (l : List ℕ). l ++ record_octets e.kind e.time e.payload) h.octets;
      taken = ((yes.1.0, yes.1.1.0), h.taken);
    })

-- one that refuses leaves all as it was
holds_refused : (buffer : List ℕ) (used : ℕ) (es : List Entry) (e : Entry) (q : Refusal) → Holds buffer used es
    → append_answer buffer used e.kind e.time e.payload ≡ Err q → Holds (append_output buffer used e.kind e.time e.payload) used es
unfolding append_answer append_output write_output
holds_refused buffer used es e q h answer =
    let failed = one_failed _ _ refl answer in
    rw (answered_refused (λ _. buffer) (at_front (longer buffer used e.kind e.time e.payload) buffer) _ failed.0) h

-- so they do after any calls of `append`
pub holds : (buffer : List ℕ) (used : ℕ) (es : List Entry) → Written buffer used es → Holds buffer used es
unfolding log_of
holds buffer used es empty = record { fits = omega arith; octets = refl; taken = tt }
holds b m entries (taken {buffer} {used} {n} {es} w e answer) = holds_taken buffer used es e n (holds buffer used es w) answer
holds b m entries (refused {buffer} {used} {refusal} {es} w e answer) = holds_refused buffer used es e refusal (holds buffer used es w) answer
