-- Reading a record: what each return of the code answers.
-- Assumes nothing.
use mathlib.Core.Path.{◌≡◌, refl, sym, ap₂, ◌∙◌}
use mathlib.Core.Bool.{Bool, true, false}
use mathlib.Core.List.{List, [], ◌∷◌}
use Prim.Native.Nat.{ℕ, ◌+◌, ◌-◌, ◌≤◌, ◌<◌}
use native.Mathlib.Omega.{arith}
use borrow.Author.Tests.{eq-eqb, ne_eqb, le-leb, lt-leb}
use lib.Dec.{leb}
use lib.ListN.{length}
use Rattle.std.specs.Prelude.{Option, Some, None, Result, Ok, Err}
use Rattle.octets.specs.Question.{ask, first_no}
use Rattle.octets.specs.Refusal.{refused, result_of}
use Rattle.octets.specs.declared.refusal.Refusal.{Refusal}
use Rattle.octets.proofs.Refusals.{accepts, none_failed, handed_on, passes, fails, ends}
use Rattle.log_record.specs.Kind.{known_kind}
use Rattle.log_record.specs.Record.{allowed_size, time_octets}
use Rattle.log_record.specs.Read.{log_record, kind_of, octet_before, length_before, time_before, size_before, read_question, record_before, read_before, read_record}
use Rattle.log_record.specs.declared.LogRecord.{LogRecord}

-- the questions to the trailer before an end
module _ (log : List ℕ) (end : ℕ) where
  pub no_trailer : end < 3 → refused 41 ≡ read_before log end
  unfolding read_before
  no_trailer h = fails _ 41 _ refl (lt-leb 3 end h)

  module _ (three : 3 ≤ end) {k : ℕ} (kind_is : k ≡ kind_of (octet_before log end)) where
    pub no_kind : known_kind k ≡ false → refused 42 ≡ read_before log end
    unfolding read_before
    no_kind e = passes _ 41 _ (le-leb 3 end three) (fails _ 42 _ refl (rw (← kind_is) e))

    module _ (known : known_kind k ≡ true) {n : ℕ} (length_is : n ≡ length_before log end) {sized : Bool} (size-asked : sized ≡ allowed_size n) where
      pub no_size : sized ≡ false → refused 43 ≡ read_before log end
      unfolding read_before
      no_size e =
          passes _ 41 _ (le-leb 3 end three)
          (passes _ 42 _ (rw (← kind_is) known) (fails _ 43 _ refl (rw (← length_is) (sym size-asked ∙ e))))

      module _ (size : sized ≡ true) {t : ℕ} (time_size : t ≡ length (time_octets (time_before log end))) where
        size_is : n + (t + 3) ≡ size_before log end
        size_is = ap₂ (λ (a b : ℕ). a + (b + 3)) length_is time_size

        -- the last question
        asked_last : {r : Result LogRecord Refusal} → r ≡ result_of (first_no (ask 44 (leb (size_before log end) end) ∷ [])) (record_before log end) → r ≡ read_before log end
        unfolding read_before
        asked_last e =
            passes _ 41 _ (le-leb 3 end three)
            (passes _ 42 _ (rw (← kind_is) known) (passes _ 43 _ (rw (← length_is) (sym size-asked ∙ size)) e))

        pub no_octets : end < n + (t + 3) → refused 44 ≡ read_before log end
        no_octets h = asked_last (fails _ 44 [] refl (lt-leb (size_before log end) end (omega (arith, size_is))))

        pub reads : {time : Option ℕ} → time ≡ time_before log end → n + (t + 3) ≤ end
            → Ok (log_record k time (end - (n + (t + 3))) n) ≡ read_before log end
        unfolding record_before
        reads time_is h =
            rw (kind_is, time_is, length_is, time_size)
            (asked_last (passes _ 44 [] (le-leb (size_before log end) end (omega (arith, size_is))) (ends _)))

module _ (log : List ℕ) where
  -- an end behind the log
  pub beyond : (end : ℕ) → length log < end → refused 47 ≡ read_record log end
  unfolding read_record read_question
  beyond end h = fails _ 47 _ refl (lt-leb end (length log) h)

  -- end 0
  pub at_start : {end : ℕ} → end ≡ 0 → Ok None ≡ read_record log end
  unfolding read_record read_question
  at_start {end} e =
      rw (eq-eqb end 0 e) (passes _ 47 [] (le-leb end (length log) (omega arith)) (ends _))

  -- above it the trailer decides
  module _ (end : ℕ) (some : 0 < end) (fits : end ≤ length log) {r : Result LogRecord Refusal} (read : r ≡ read_before log end) where
    pub record_read : {x : LogRecord} → r ≡ Ok x → Ok (Some x) ≡ read_record log end
    unfolding read_record read_question read_before
    record_read e =
        let n = none_failed _ _ read e in
        rw (ne_eqb end 0 (λ z. omega arith), n.1) (passes _ 47 _ (le-leb end (length log) fits) (accepts _ n.0))

    pub none_read : {e : Refusal} → r ≡ Err e → Err e ≡ read_record log end
    unfolding read_record read_question read_before
    none_read e =
        rw (ne_eqb end 0 (λ z. omega arith)) (passes _ 47 _ (le-leb end (length log) fits) (handed_on _ _ read _ e))
