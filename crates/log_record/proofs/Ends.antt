-- A record is read exactly where one ends.
-- Assumes nothing.
use mathlib.Core.Path.{◌≡◌, refl, sym, ap, ap₂, subst, ◌∙◌}
use mathlib.Core.Bool.{Bool, true, false, cond}
use mathlib.Core.List.{List, [], ◌∷◌, ◌++◌, append_assoc}
use Prim.Native.Nat.{ℕ, suc, ◌+◌, ◌-◌, ◌≤◌, ◌<◌}
use native.Mathlib.Omega.{arith}
use borrow.Author.Tests.{leb-true}
use lib.Dec.{leb, eqb}
use lib.ListN.{length, get_or, take, drop, length-append, length-take, length-drop, take-append-drop, get_or-append}
use lib.Seq.{get_or-take, get_or-append-add, take-add, take_at, drop_at, drop-drop, length-take-le}
use Rattle.std.specs.Prelude.{Option, Some, None, Result, Ok}
use Rattle.octets.specs.Number.{high_first_4}
use Rattle.octets.specs.Question.{ask, first_no}
use Rattle.octets.proofs.Numbers.{number_of, high_first_of, number4_of, high_first_4_of}
use Rattle.octets.proofs.Parts.{Octets, octets_from, part_is}
use Rattle.octets.specs.declared.refusal.Refusal.{Refusal}
use Rattle.octets.proofs.Questions.{all_yes}
use Rattle.octets.proofs.Refusals.{none_failed}
use Rattle.log_record.specs.Kind.{kind_number, kind_numbered, known_kind}
use Rattle.log_record.specs.Record.{allowed_size, time_octets, kind_octet, trailer, record_octets}
use Rattle.log_record.specs.Read.{log_record, timed, kind_of, octet_before, length_before, second_before, time_before, size_before, trailer_questions, read_question, record_before, read_record, payload_in, EndsAt, ReadsWhatEnds}
use Rattle.log_record.specs.declared.LogRecord.{LogRecord}
use Rattle.log_record.specs.declared.kind.RecordKind.{RecordKind}
use Rattle.log_record.proofs.KindNumbers.{number_back, kind_back, number_known}
use Rattle.log_record.proofs.KindOctet.{with_time, without_time, kind_there, ten_most}
use Rattle.log_record.proofs.Read.{reads, record_read}

-- what the trailer says where a record is read
pub record Trailer (log : List ℕ) (end : ℕ) (x : LogRecord) : Type 0 where
  pub fits : end ≤ length log
  pub kind : kind_of (octet_before log end) ≡ kind_number x.kind
  pub time : time_before log end ≡ x.time
  pub size : length_before log end ≡ x.length
  pub known : known_kind (kind_number x.kind) ≡ true
  pub sized : allowed_size x.length ≡ true
  pub ends : x.start + (x.length + (length (time_octets x.time) + 3)) ≡ end

pub trailer_read : (log : List ℕ) (end : ℕ) (x : LogRecord) → read_record log end ≡ Ok (Some x) → Trailer log end x
unfolding read_record read_question record_before
trailer_read log end x e =
    let asked = none_failed _ _ refl e in
    by (eqb end 0) asked.0 asked.1
  where
    by : (b : Bool) → first_no (ask 47 (leb end (length log)) ∷ cond b [] (trailer_questions log end)) ≡ 0
        → Some x ≡ cond b None (Some (record_before log end)) → Trailer log end x
    by true none same = cc
    by false none same =
        let yes = all_yes (ask 47 (leb end (length log)) ∷ trailer_questions log end) tt none in
        let room = leb-true (size_before log end) end yes.1.1.1.1.0 in
        let is : log_record (kind_of (octet_before log end)) (time_before log end) (end - size_before log end) (length_before log end) ≡ x = cc in
        subst (λ (y : LogRecord). Trailer log end y) is
        (record {
          fits = leb-true end (length log) yes.0;
          kind = sym (number_back (kind_of (octet_before log end)) yes.1.1.0);
          time = refl;
          size = refl;
          known = number_known (kind_numbered (kind_of (octet_before log end)));
          sized = yes.1.1.1.0;
          ends = omega arith;
        })

-- the octets before an end are those that the trailer and the time were read from
module _ (log : List ℕ) (octets : Octets log) (end : ℕ) where
  trailer_is : (at : ℕ) → at + 3 ≡ end → octets_from at 3 log ≡ trailer (octet_before log end) (length_before log end)
  trailer_is at e =
      let i : at ≡ end - 3 = omega arith in
      let j : suc at ≡ end - 2 = omega arith in
      let k : suc (suc at) ≡ end - 1 = omega arith in
      ap₂ (λ (m : ℕ) (l : List ℕ). get_or log m 0 ∷ l) i
      (ap₂ (λ (m n : ℕ). get_or log m 0 ∷ get_or log n 0 ∷ []) j k ∙ sym (high_first_of (get_or log (end - 2) 0) (get_or log (end - 1) 0) (octets (end - 1))))

  second_is : (at : ℕ) → at + 7 ≡ end → octets_from at 4 log ≡ high_first_4 (second_before log end)
  second_is at e =
      let i : at ≡ end - 7 = omega arith in
      let j : suc at ≡ end - 6 = omega arith in
      let k : suc (suc at) ≡ end - 5 = omega arith in
      let l : suc (suc (suc at)) ≡ end - 4 = omega arith in
      ap₂ (λ (m n : ℕ). get_or log m 0 ∷ get_or log n 0 ∷ get_or log (suc (suc at)) 0 ∷ get_or log (suc (suc (suc at))) 0 ∷ []) i j
      ∙ ap₂ (λ (m n : ℕ). get_or log (end - 7) 0 ∷ get_or log (end - 6) 0 ∷ get_or log m 0 ∷ get_or log n 0 ∷ []) k l
      ∙ sym (high_first_4_of (get_or log (end - 7) 0) (get_or log (end - 6) 0) (get_or log (end - 5) 0) (get_or log (end - 4) 0) (octets (end - 6)) (octets (end - 5)) (octets (end - 4)))

  -- so they are a time and a trailer
  abbrev Behind : ℕ → Option ℕ → ℕ → ℕ → Type 0
  Behind kind time n at =
      at + (length (time_octets time) + 3) ≡ end
      → take (length (time_octets time) + 3) (drop at log) ≡ time_octets time ++ trailer (kind_octet kind time) n

  behind_is : end ≤ length log → (at : ℕ) → Behind (kind_of (octet_before log end)) (time_before log end) (length_before log end) at
  unfolding kind_of time_before time_octets kind_octet
  behind_is fits at = by (timed (octet_before log end)) refl
    where
      by : (b : Bool) → timed (octet_before log end) ≡ b
          → Behind (cond b (octet_before log end - 10) (octet_before log end)) (cond b (Some (second_before log end)) None) (length_before log end) at
      by true e is =
          part_is at 7 log (omega arith)
          ∙ ap₂ (λ (a b : List ℕ). a ++ b) (second_is at is) (trailer_is (suc (suc (suc (suc at)))) (omega arith) ∙ ap (λ (k : ℕ). trailer k (length_before log end)) (omega (arith, ten_most (octet_before log end) (sym e) refl)))
      by false e is = part_is at 3 log (omega arith) ∙ trailer_is at is

-- the octets that were read are the record's
module _ (log : List ℕ) (octets : Octets log) (end : ℕ) (x : LogRecord) (read : read_record log end ≡ Ok (Some x)) where
  t : Trailer log end x
  t = trailer_read log end x read

  payload_size : length (payload_in log x) ≡ x.length
  payload_size = rw (length-take x.length (drop x.start log), length-drop x.start log) (omega (arith, t.fits, t.ends))

  behind_read : take (length (time_octets x.time) + 3) (drop (x.start + x.length) log) ≡ time_octets x.time ++ trailer (kind_octet (kind_number x.kind) x.time) (length (payload_in log x))
  behind_read =
      let at = x.start + x.length in
      subst (λ (n : ℕ). Behind log octets end (kind_number x.kind) x.time n at) (t.size ∙ sym payload_size)
      (subst (λ (time : Option ℕ). Behind log octets end (kind_number x.kind) time (length_before log end) at) t.time
      (subst (λ (kind : ℕ). Behind log octets end kind (time_before log end) (length_before log end) at) t.kind (behind_is log octets end t.fits at)))
      (omega (arith, t.ends))

  pub ends_there : EndsAt log end x
  unfolding record_octets
  ends_there = record {
    sized = t.sized;
    fits = t.fits;
    octets =
        ap (λ (k : ℕ). take k log) (sym t.ends)
        ∙ take-add x.start (x.length + (length (time_octets x.time) + 3)) log
        ∙ ap (λ (l : List ℕ). take x.start log ++ l)
        (take-add x.length (length (time_octets x.time) + 3) (drop x.start log)
        ∙ ap (λ (l : List ℕ). payload_in log x ++ l)
        (ap (λ (l : List ℕ). take (length (time_octets x.time) + 3) l) (drop-drop x.length x.start log) ∙ behind_read));
  }

-- a trailer that stands behind some octets and before the end
module _ (log front : List ℕ) (octet n end : ℕ) (fits : end ≤ length log) (stands : take end log ≡ front ++ trailer octet n) where
  front_size : length front + 3 ≡ end
  front_size = omega (arith, length-take-le end log fits, ap length stands, length-append front (trailer octet n))

  trailer_at : (i j : ℕ) → i < 3 → j + 3 ≡ end + i → get_or log j 0 ≡ get_or (trailer octet n) i 0
  trailer_at i j h same =
      let at : j ≡ length front + i = omega (arith, front_size) in
      rw at
      (sym (get_or-take end log (length front + i) 0 (omega (arith, front_size)))
      ∙ ap (λ (l : List ℕ). get_or l (length front + i) 0) stands
      ∙ get_or-append-add front (trailer octet n) i 0)

  -- its octet and its length are read
  pub octet_there : octet_before log end ≡ octet
  octet_there = trailer_at 0 (end - 3) (omega arith) (omega (arith, front_size))

  pub length_there : n ≡ length_before log end
  length_there =
      sym (rw (trailer_at 1 (end - 2) (omega arith) (omega (arith, front_size)), trailer_at 2 (end - 1) (omega arith) (omega (arith, front_size))) (number_of n))

-- a record that stands behind some octets and before the end is read
module _ (log before : List ℕ) (kind : ℕ) (time : Option ℕ) (payload : List ℕ) (end : ℕ) (fits : end ≤ length log)
    (stands : take end log ≡ before ++ record_octets kind time payload) where
  -- what stands behind the payload
  abbrev behind : List ℕ
  behind = time_octets time ++ trailer (kind_octet kind time) (length payload)

  -- what stands before the trailer
  abbrev front : List ℕ
  front = before ++ (payload ++ time_octets time)

  front_stands : take end log ≡ front ++ trailer (kind_octet kind time) (length payload)
  unfolding record_octets
  front_stands =
      let last = trailer (kind_octet kind time) (length payload) in
      stands
      ∙ ap (λ (l : List ℕ). before ++ l) (sym (append_assoc payload (time_octets time) last))
      ∙ sym (append_assoc before (payload ++ time_octets time) last)

  pub end_is : length before + (length payload + (length (time_octets time) + 3)) ≡ end
  end_is =
      omega
      (arith, front_size log front (kind_octet kind time) (length payload) end fits front_stands, length-append before (payload ++ time_octets time), length-append payload (time_octets time))

  octet_is : octet_before log end ≡ kind_octet kind time
  octet_is = octet_there log front (kind_octet kind time) (length payload) end fits front_stands

  length_is : length payload ≡ length_before log end
  length_is = length_there log front (kind_octet kind time) (length payload) end fits front_stands

  -- the octets behind the payload
  octet_at : (i : ℕ) → i < length (time_octets time) + 3 → get_or log (length before + (length payload + i)) 0 ≡ get_or behind i 0
  unfolding record_octets
  octet_at i h =
      sym (get_or-take end log (length before + (length payload + i)) 0 (omega (arith, end_is)))
      ∙ ap (λ (l : List ℕ). get_or l (length before + (length payload + i)) 0) stands
      ∙ get_or-append-add before (payload ++ behind) (length payload + i) 0
      ∙ get_or-append-add payload behind i 0

  -- and of the time
  second_there : (s : ℕ) → time ≡ Some s → second_before log end ≡ s
  unfolding time_octets
  second_there s e =
      let four : length (time_octets time) ≡ 4 = ap (λ (t : Option ℕ). length (time_octets t)) e in
      let at : (i j : ℕ) → i < 4 → j + 7 ≡ end + i → get_or log j 0 ≡ get_or (high_first_4 s) i 0
      = λ i j h same.
      let there : j ≡ length before + (length payload + i) = omega (arith, end_is) in
      rw there (octet_at i (omega arith) ∙ get_or-append (time_octets time) (trailer (kind_octet kind time) (length payload)) 0 i (omega arith) ∙ ap (λ (t : Option ℕ). get_or (time_octets t) i 0) e) in
      rw (at 0 (end - 7) (omega arith) (omega (arith, end_is)), at 1 (end - 6) (omega arith) (omega (arith, end_is)), at 2 (end - 5) (omega arith) (omega (arith, end_is)), at 3 (end - 4) (omega arith) (omega (arith, end_is)))
      (number4_of s)

  time_is : known_kind kind ≡ true → time_before log end ≡ time
  unfolding time_before kind_octet
  time_is known = rw octet_is (by time refl)
    where
      by : (t : Option ℕ) → time ≡ t → cond (timed (kind_octet kind t)) (Some (second_before log end)) None ≡ t
      by (Some s) e = rw (with_time kind known) (ap Some (second_there s e))
      by None e = rw (without_time kind known)

  pub read_there : known_kind kind ≡ true → allowed_size (length payload) ≡ true
      → read_record log end ≡ Ok (Some (log_record kind time (length before) (length payload)))
  read_there known sized =
      let kind-is : kind_of (octet_before log end) ≡ kind = ap kind_of octet_is ∙ kind_there kind known time in
      let time-same = time_is known in
      let start : end - (length payload + (length (time_octets time) + 3)) ≡ length before = omega (arith, end_is) in
      sym (record_read log end (omega (arith, end_is)) fits (reads log end (omega (arith, end_is)) (sym kind-is) known length_is {sized = true} (sym sized) refl (ap (λ (t : Option ℕ). length (time_octets t)) (sym time-same))
      (sym time-same) (omega (arith, end_is))) refl)
      ∙ ap (λ (i : ℕ). Ok (Some (log_record kind time i (length payload)))) start

  -- and its octets are the part of the log
  pub payload_there : payload_in log (log_record kind time (length before) (length payload)) ≡ payload
  unfolding record_octets
  payload_there =
      ap (λ (l : List ℕ). take (length payload) (drop (length before) l)) whole
      ∙ ap (λ (l : List ℕ). take (length payload) l) (drop_at before ((payload ++ behind) ++ drop end log) (length before) refl)
      ∙ ap (λ (l : List ℕ). take (length payload) l) (append_assoc payload behind (drop end log))
      ∙ take_at payload (behind ++ drop end log) (length payload) refl
    where
      whole : log ≡ before ++ ((payload ++ behind) ++ drop end log)
      whole =
          sym (take-append-drop end log)
          ∙ ap (λ (l : List ℕ). l ++ drop end log) stands
          ∙ append_assoc before (payload ++ behind) (drop end log)

-- so of a record that ends there
ends_read : (log : List ℕ) (end : ℕ) (x : LogRecord) → EndsAt log end x → read_record log end ≡ Ok (Some x)
ends_read log end x e =
    let is = end_is log (take x.start log) (kind_number x.kind) x.time (payload_in log x) end e.fits e.octets in
    let before = length-take x.start log in
    let part = length-take x.length (drop x.start log) in
    let behind = length-drop x.start log in
    let start : length (take x.start log) ≡ x.start = omega (arith, is, e.fits) in
    let size : length (payload_in log x) ≡ x.length = omega (arith, is, e.fits) in
    read_there log (take x.start log) (kind_number x.kind) x.time (payload_in log x) end e.fits e.octets (number_known x.kind) (ap allowed_size size ∙ e.sized)
    ∙ ap₂ (λ (i n : ℕ). Ok (Some (log_record (kind_number x.kind) x.time i n))) start size
    ∙ ap (λ (kind : RecordKind). Ok (Some (record x { kind = kind }))) (kind_back x.kind)

-- the promise of reading
pub what_ends : (log : List ℕ) → Octets log → (end : ℕ) {r : Result (Option LogRecord) Refusal} → r ≡ read_record log end → (r ≡ read_record log end) × ReadsWhatEnds log end r
what_ends log octets end e = (e, λ x. (λ same. ends_there log octets end x (sym e ∙ same), λ there. e ∙ ends_read log end x there))
