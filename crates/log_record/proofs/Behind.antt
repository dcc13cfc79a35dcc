-- What the octets at a log's end say: the trailer, and the time before it.
-- Assumes nothing.
use mathlib.Core.Path.{◌≡◌, refl, sym, ap, ap₂, ◌∙◌}
use mathlib.Core.Bool.{Bool, true, false}
use mathlib.Core.List.{List}
use Prim.Native.Nat.{ℕ, ◌+◌, ◌-◌, ◌<◌}
use native.Mathlib.Omega.{arith}
use borrow.Author.Tests.{eq-eqb, ne_eqb}
use lib.ListN.{length, get_or, take, drop, length-take, length-drop}
use lib.Seq.{get_or-take, get_or-drop}
use Rattle.octets.specs.Number.{number}
use Rattle.log_record.specs.Record.{time_octets, time_of}
use Rattle.log_record.specs.Read.{timed, octet_before, length_before, time_before}
use Rattle.log_record.proofs.KindOctet.{second_read, none_read, four_octets, no_octet}

-- a log's last three octets, and those before them
module _ (log before last : List ℕ) (front : before ≡ take (length log - 3) log) (three : last ≡ drop (length log - 3) log) (size : length before + 3 ≡ length log) where
  item : (i j : ℕ) → j + 3 ≡ length log + i → get_or last i 0 ≡ get_or log j 0
  item i j same =
      let there : length log - 3 + i ≡ j = omega arith in
      ap (λ (l : List ℕ). get_or l i 0) three ∙ get_or-drop (length log - 3) log i 0 ∙ ap (λ (k : ℕ). get_or log k 0) there

  -- the three are the trailer
  pub octet_is : get_or last 0 0 ≡ octet_before log (length log)
  octet_is = item 0 (length log - 3) (omega arith)

  pub length_is : number (get_or last 1 0) (get_or last 2 0) ≡ length_before log (length log)
  length_is =
      ap₂ (λ (a b : ℕ). number a b) (item 1 (length log - 2) (omega arith)) (item 2 (length log - 1) (omega arith))

  -- as many octets before them as the time has are the time
  pub time_is : (from t : ℕ) → t ≡ length (time_octets (time_before log (length log))) → from + t ≡ length before
      → time_of (take (length before - from) (drop from before)) ≡ time_before log (length log)
  unfolding time_of
  time_is from t few all = by (timed (octet_before log (length log))) refl
    where
      rest : List ℕ
      rest = take (length before - from) (drop from before)

      count : length rest ≡ t
      count = omega (arith, length-take (length before - from) (drop from before), length-drop from before)

      at : (i j : ℕ) → i < t → j + 3 + t ≡ length log + i → get_or rest i 0 ≡ get_or log j 0
      at i j less same =
          let there : from + i ≡ j = omega arith in
          get_or-take (length before - from) (drop from before) i 0 (omega arith)
          ∙ get_or-drop from before i 0
          ∙ ap₂ (λ (l : List ℕ) (k : ℕ). get_or l k 0) front there
          ∙ get_or-take (length log - 3) log j 0 (omega arith)

      by : (b : Bool) → timed (octet_before log (length log)) ≡ b → time_of rest ≡ time_before log (length log)
      by true e =
          let four : t ≡ 4 = few ∙ four_octets log (length log) refl e in
          rw (eq-eqb (length rest) 4 (count ∙ four), at 0 (length log - 7) (omega arith) (omega arith), at 1 (length log - 6) (omega arith) (omega arith), at 2 (length log - 5) (omega arith) (omega arith), at 3 (length log - 4) (omega arith) (omega arith))
          (sym (second_read log (length log) refl e))
      by false e =
          let none : t ≡ 0 = few ∙ no_octet log (length log) refl e in
          rw (ne_eqb (length rest) 4 (λ z. omega (arith, count))) (sym (none_read log (length log) refl e))
