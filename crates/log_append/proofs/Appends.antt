-- Appending: what each return of the code answers and leaves, and that the record reads back.
-- Assumes nothing.
use mathlib.Core.Path.{◌≡◌, sym, ap, ◌∙◌}
use mathlib.Core.Bool.{Bool, true, false}
use mathlib.Core.List.{List, [], ◌++◌}
use Prim.Native.Nat.{ℕ, ◌+◌, ◌-◌, ◌≤◌, ◌<◌}
use native.Mathlib.Omega.{arith}
use borrow.Author.Tests.{le-leb, lt-leb}
use lib.ListN.{length, take, drop, length-append, take-append-drop}
use lib.Seq.{take-append-le, take-take, length-take-le}
use Rattle.std.specs.Prelude.{Option, Some, Result, Ok}
use Rattle.octets.specs.Output.{at_front}
use Rattle.octets.specs.Put.{Put}
use Rattle.octets.specs.Refusal.{refused}
use Rattle.octets.proofs.Outputs.{take_front, length_front, front_sets, left_refused, left_written}
use Rattle.octets.proofs.Questions.{passed, failed, ended}
use Rattle.log_record.specs.Kind.{known_kind}
use Rattle.log_record.specs.Record.{allowed_size, time_octets, kind_octet, trailer, record_octets}
use Rattle.log_record.specs.Read.{log_record, read_record, payload_of}
use Rattle.log_append.specs.Append.{longer, append_questions, append_question, append_answer, append_output, GivesBack, ReadsBack}
use Rattle.octets.specs.declared.refusal.Refusal.{Refusal}
use Rattle.log_record.proofs.Same.{same_read}
use Rattle.log_record.proofs.Ends.{read_there, payload_there}

-- how many octets a record takes
pub record_size : (kind : ℕ) (time : Option ℕ) (payload : List ℕ) → length (record_octets kind time payload) ≡ length payload + (length (time_octets time) + 3)
unfolding record_octets
record_size kind time payload =
    let behind = trailer (kind_octet kind time) (length payload) in
    omega (arith, length-append payload (time_octets time ++ behind), length-append (time_octets time) behind)

-- a list is its own front before its rest
front_of_all : (n : ℕ) (l : List ℕ) → n ≤ length l → l ≡ at_front (take n l) l
unfolding at_front
front_of_all n l h = sym (ap (λ (k : ℕ). take n l ++ drop k l) (length-take-le n l h) ∙ take-append-drop n l)

-- a record behind the used octets of a buffer that has room for it
module _ (buffer : List ℕ) (used kind : ℕ) (time : Option ℕ) (payload : List ℕ) (room : used + (length payload + (length (time_octets time) + 3)) ≤ length buffer) where
  abbrev after : List ℕ
  after = at_front (longer buffer used kind time payload) buffer

  used_size : length (take used buffer) ≡ used
  used_size = length-take-le used buffer (omega arith)

  longer_size : length (longer buffer used kind time payload) ≡ used + (length payload + (length (time_octets time) + 3))
  longer_size = omega (arith, length-append (take used buffer) (record_octets kind time payload), record_size kind time payload, used_size)

  pub after_size : length after ≡ length buffer
  after_size = length_front (longer buffer used kind time payload) buffer (omega (arith, longer_size))

  -- up to the new used count there are the used octets and the record
  pub stands : take (used + (length payload + (length (time_octets time) + 3))) after ≡ longer buffer used kind time payload
  stands = ap (λ (k : ℕ). take k after) (sym longer_size) ∙ take_front (longer buffer used kind time payload) buffer

  -- the used octets stay
  kept : (end : ℕ) → end ≤ used → take end after ≡ take end buffer
  unfolding at_front
  kept end h =
      take-append-le end (longer buffer used kind time payload) (drop (length (longer buffer used kind time payload)) buffer) (omega (arith, longer_size))
      ∙ take-append-le end (take used buffer) (record_octets kind time payload) (omega (arith, used_size))
      ∙ take-take end used buffer h

  -- so the record reads back, and what stood before it as before
  pub gives_back : known_kind kind ≡ true → allowed_size (length payload) ≡ true → GivesBack buffer used kind time payload after (used + (length payload + (length (time_octets time) + 3)))
  gives_back known sized = record {
    read = back;
    octets = ap (payload_of after) back ∙ rw used_size at (payload_there after (take used buffer) kind time payload (used + (length payload + (length (time_octets time) + 3))) (omega (arith, after_size)) stands);
    before = λ k. same_read after buffer (used - k) (omega (arith, after_size)) (omega arith) (kept (used - k) (omega arith));
  }
    where
      back : read_record after (used + (length payload + (length (time_octets time) + 3))) ≡ Ok (Some (log_record kind time used (length payload)))
      back = rw used_size at (read_there after (take used buffer) kind time payload (used + (length payload + (length (time_octets time) + 3))) (omega (arith, after_size)) stands known sized)

module _ (buffer : List ℕ) (used kind : ℕ) (time : Option ℕ) (payload : List ℕ) where
  -- the answer, the buffer afterwards, and the promise
  abbrev Left : Result ℕ Refusal → List ℕ → Type 0
  Left r l =
      (r ≡ append_answer buffer used kind time payload)
      × ((l ≡ append_output buffer used kind time payload) × ReadsBack buffer used kind time payload l r)

  refuses : {q : ℕ} → q ≡ append_question buffer used kind time payload → (q ≡ 0 → ⊥) → Left (refused q) buffer
  unfolding append_answer append_output
  refuses asked fails =
      left_refused refused _ (λ r l. ReadsBack buffer used kind time payload l r) (longer buffer used kind time payload) buffer
      (λ k. tt)
      asked
      fails

  pub beyond : length buffer < used → Left (refused 47) buffer
  unfolding append_question append_questions
  beyond h = refuses (failed 47 _ (lt-leb used (length buffer) h)) (λ z. omega arith)

  module _ (inside : used ≤ length buffer) where
    pub no_kind : known_kind kind ≡ false → Left (refused 42) buffer
    unfolding append_question append_questions
    no_kind e = refuses (passed 47 _ (le-leb used (length buffer) inside) (failed 42 _ e)) (λ z. omega arith)

    module _ (known : known_kind kind ≡ true) {sized : Bool} (size-asked : sized ≡ allowed_size (length payload)) where
      pub no_size : sized ≡ false → Left (refused 43) buffer
      unfolding append_question append_questions
      no_size e =
          refuses (passed 47 _ (le-leb used (length buffer) inside) (passed 42 _ known (failed 43 _ (sym size-asked ∙ e))))
          (λ z. omega arith)

      module _ (size-right : sized ≡ true) where
        pub no_room : length buffer - used < length payload + (length (time_octets time) + 3) → Left (refused 46) buffer
        unfolding append_question append_questions
        no_room h =
            refuses
            (passed 47 _ (le-leb used (length buffer) inside)
            (passed 42 _ known
            (passed 43 _ (sym size-asked ∙ size-right) (failed 46 [] (lt-leb _ (length buffer) (omega (arith, record_size kind time payload)))))))
            (λ z. omega arith)

        module _ (room : length payload + (length (time_octets time) + 3) ≤ length buffer - used) where
          none : append_question buffer used kind time payload ≡ 0
          unfolding append_question append_questions
          none =
              sym
              (passed 47 _ (le-leb used (length buffer) inside)
              (passed 42 _ known
              (passed 43 _ (sym size-asked ∙ size-right) (passed 46 [] (le-leb _ (length buffer) (omega (arith, record_size kind time payload))) ended))))

          pub all_written : {after : List ℕ} {n : ℕ} → Put (record_octets kind time payload) buffer used after n → Left (Ok n) after
          unfolding append_answer append_output
          all_written {after} {n} put =
              left_written refused (Ok (used + length (record_octets kind time payload))) (λ r l. ReadsBack buffer used kind time payload l r) (longer buffer used kind time payload) buffer none
              (ap Ok put.place)
              front
              (rw (front, ← place) there)
            where
              place : used + (length payload + (length (time_octets time) + 3)) ≡ n
              place = omega (arith, put.place, record_size kind time payload)

              front : after ≡ at_front (longer buffer used kind time payload) buffer
              front =
                  put.list
                  ∙ front_sets (take used buffer) (record_octets kind time payload) buffer (front_of_all used buffer inside) (sym (length-take-le used buffer inside))
                  (omega (arith, length-take-le used buffer inside, record_size kind time payload))

              there : GivesBack buffer used kind time payload (at_front (longer buffer used kind time payload) buffer) (used + (length payload + (length (time_octets time) + 3)))
              there = gives_back buffer used kind time payload (omega arith) known (sym size-asked ∙ size-right)
