-- What is read from an end depends on the octets before it alone.
-- Assumes nothing.
use mathlib.Core.Path.{◌≡◌, refl, sym, ap, ◌∙◌}
use mathlib.Core.List.{List}
use Prim.Native.Nat.{ℕ, zero, suc, ◌-◌, ◌≤◌, ◌<◌}
use native.Mathlib.Omega.{arith}
use borrow.Author.Tests.{le-leb}
use lib.ListN.{length, get_or, take}
use lib.Seq.{get_or-take, take-take, length-take-le}
use Rattle.std.specs.Prelude.{slice_range, Result}
use Rattle.octets.specs.Question.{first_no, answered}
use Rattle.octets.specs.declared.refusal.Refusal.{Refusal}
use Rattle.log_record.specs.Read.{time_before, read_question, record_before, read_before, read_record}
use Rattle.log_record.specs.declared.LogRecord.{LogRecord}
use Rattle.log_record.proofs.Read.{at_start}

module _ (a b : List ℕ) (end : ℕ) (same : take end a ≡ take end b) where
  octet : (i : ℕ) → i < end → get_or a i 0 ≡ get_or b i 0
  octet i h =
      sym (get_or-take end a i 0 h) ∙ ap (λ (l : List ℕ). get_or l i 0) same ∙ get_or-take end b i 0 h

pub same_before : (a b : List ℕ) (end : ℕ) → take end a ≡ take end b → read_before a end ≡ read_before b end
unfolding read_before record_before time_before first_no answered
same_before a b zero same = refl
same_before a b (suc n) same =
    let at = octet a b (suc n) same in
    rw (
      at (suc n - 3) (omega arith),
      at (suc n - 2) (omega arith),
      at (suc n - 1) (omega arith),
      at (suc n - 7) (omega arith),
      at (suc n - 6) (omega arith),
      at (suc n - 5) (omega arith),
      at (suc n - 4) (omega arith),
    )

pub same_read : (a b : List ℕ) (end : ℕ) → end ≤ length a → end ≤ length b → take end a ≡ take end b → read_record a end ≡ read_record b end
unfolding read_record read_question record_before time_before
same_read a b zero fa fb same = sym (at_start a {end = 0} refl) ∙ at_start b {end = 0} refl
same_read a b (suc n) fa fb same =
    let at = octet a b (suc n) same in
    rw (
      at (suc n - 3) (omega arith),
      at (suc n - 2) (omega arith),
      at (suc n - 1) (omega arith),
      at (suc n - 7) (omega arith),
      at (suc n - 6) (omega arith),
      at (suc n - 5) (omega arith),
      at (suc n - 4) (omega arith),
      le-leb (suc n) (length a) fa,
      le-leb (suc n) (length b) fb,
    )

-- so the octets before an end read as the log does
pub front_read : (log front : List ℕ) (end : ℕ) {r : Result LogRecord Refusal} → end ≤ length log → front ≡ slice_range log 0 end
    → r ≡ read_before front (length front) → r ≡ read_before log end
front_read log front end fits is read =
    let all : end - 0 ≡ end = omega arith in
    let taken : front ≡ take end log = is ∙ ap (λ (k : ℕ). take k log) all in
    read
    ∙ ap (λ (k : ℕ). read_before front k) (ap length taken ∙ length-take-le end log fits)
    ∙ same_before front log end (ap (λ (l : List ℕ). take end l) taken ∙ take-take end end log (omega arith))
