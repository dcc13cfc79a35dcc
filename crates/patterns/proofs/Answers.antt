-- What `detect_patterns` answers and leaves, with what it promises of the entries.
-- Assumes nothing.
use mathlib.Core.Path.{◌≡◌, ap}
use mathlib.Core.List.{List}
use mathlib.Core.Bool.{true, false}
use Prim.Native.Nat.{ℕ, ◌*◌, ◌≤◌, ◌<◌}
use native.Mathlib.Omega.{arith}
use borrow.Author.Tests.{le-leb, lt-leb}
use lib.ListN.{length, drop}
use Rattle.std.specs.Prelude.{Result, Ok}
use Rattle.octets.specs.Output.{at_front}
use Rattle.octets.specs.Refusal.{refused}
use Rattle.octets.specs.Size.{at_most_65535}
use Rattle.octets.specs.declared.refusal.Refusal.{Refusal}
use Rattle.octets.proofs.Outputs.{left_refused, left_written}
use Rattle.octets.proofs.Puts.{put_front}
use Rattle.octets.proofs.Questions.{passed, failed, none_fails}
use Rattle.patterns.specs.Entries.{padding_pattern, text_pattern, entries, entry_numbers}
use Rattle.patterns.specs.Detect.{patterns_questions, patterns_question, patterns_answer, patterns_output}
use Rattle.patterns.specs.Laws.{Shown, Shows, Padding, Text}
use Rattle.patterns.specs.Steps.{PutEntries}
use Rattle.patterns.proofs.Laws.{shown_padding, shown_texts}

module _ (s out : List ℕ) where
  -- the answer, the lent list afterwards, and the promises
  pub record Detected (r : Result ℕ Refusal) (l : List ℕ) : Type 0 where
    pub value : r ≡ patterns_answer s out
    pub output : l ≡ patterns_output s out
    pub padding : Shows padding_pattern (Padding s) r l
    pub texts : Shows text_pattern (Text s) r l

  abbrev Promised : Result ℕ Refusal → List ℕ → Type 0
  Promised r l = Shows padding_pattern (Padding s) r l × Shows text_pattern (Text s) r l

  refuses : {q : ℕ} → q ≡ patterns_question s out → (q ≡ 0 → ⊥) → Detected (refused q) out
  unfolding patterns_answer patterns_output
  refuses asked fails =
      let left = left_refused refused (Ok (length (entries s))) Promised (entry_numbers (entries s)) out (λ k. (tt, tt)) asked fails in
      record { value = left.0; output = left.1.0; padding = tt; texts = tt }

  pub too_long : at_most_65535 (length s) ≡ false → Detected (refused 31) out
  unfolding patterns_question patterns_questions
  too_long h = refuses (failed 31 _ h) (λ z. omega arith)

  module _ (short : at_most_65535 (length s) ≡ true) where
    pub no_room : length out < 4 * length (entries s) → Detected (refused 32) out
    unfolding patterns_question patterns_questions
    no_room h = refuses (passed 31 _ short (failed 32 _ (lt-leb (4 * length (entries s)) (length out) h))) (λ z. omega arith)

    -- a count counts all entries
    shows : {pattern n : ℕ} {P : ℕ → ℕ → ℕ → Type 0} {l : List ℕ} → n ≡ length (entries s) → l ≡ at_front (entry_numbers (entries s)) out
        → Shown pattern P (length (entries s)) (at_front (entry_numbers (entries s)) out) → Shows pattern P (Ok n) l
    shows count front shown = rw (count, front) shown

    pub all_fit : {n : ℕ} {l : List ℕ} → 4 * length (entries s) ≤ length out → PutEntries (entries s) out 0 l n → Detected (Ok n) l
    unfolding patterns_answer patterns_output patterns_question patterns_questions at_front
    all_fit {n} {l} room put =
        let rest : List ℕ = drop (length (entry_numbers (entries s))) out in
        let count : n ≡ length (entries s) = omega (arith, put.count) in
        let none : patterns_question s out ≡ 0
        = none_fails (patterns_questions s out) (short, (le-leb (4 * length (entries s)) (length out) room, tt)) in
        let front : l ≡ at_front (entry_numbers (entries s)) out = (put_front (put.put (omega arith))).1 in
        let padding = shows count front (shown_padding s rest) in
        let texts = shows count front (shown_texts s rest) in
        let left = left_written refused (Ok (length (entries s))) Promised (entry_numbers (entries s)) out none (ap Ok count) front (padding, texts) in
        record { value = left.0; output = left.1.0; padding = padding; texts = texts }
