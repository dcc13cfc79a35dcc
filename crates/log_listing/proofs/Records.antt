-- The frames of a record and the length of its line.
-- Assumes nothing.
use mathlib.Core.Path.{◌≡◌, refl, ap, ap₂, ◌∙◌}
use mathlib.Core.Bool.{Bool, true, false, cond}
use mathlib.Core.List.{List}
use Prim.Native.Nat.{ℕ, ◌+◌, ◌*◌, ◌^◌, ◌≤◌, ◌<◌}
use native.Mathlib.Omega.{arith}
use borrow.Author.Tests.{le-leb}
use mir.Val.{bool_byte}
use lib.Dec.{eqb}
use lib.ListN.{length, length-append}
use Rattle.std.specs.Prelude.{Option, Some, None, Result, Ok}
use Rattle.octets.proofs.Parts.{Octets}
use Rattle.crc.specs.declared.CheckRule.TheVariants.{AnnexG}
use Rattle.octets.specs.declared.refusal.Refusal.{Refusal}
use Rattle.run_finder.specs.Reading.{reading}
use Rattle.run_reading.specs.Answer.{Counted}
use Rattle.run_finder.proofs.Pass.{few_reports}
use Rattle.log_record.specs.Record.{time_octets}
use Rattle.log_listing.specs.Listing.{valid, frames, time_field, line, record_line}
use Rattle.text.specs.Text.{field}
use Rattle.text.proofs.Decimals.{length_field}

-- counting the frames of so few octets is not refused
pub counted : (payload : List ℕ) {answer : Result ℕ Refusal} → length payload ≤ 1514 → Counted AnnexG payload answer → answer ≡ Ok (length (reading AnnexG payload))
counted payload few covered = covered (le-leb (length payload) 65535 (omega arith))

-- there are no more frames than octets
frames_most : (kind : ℕ) (payload : List ℕ) → Octets payload → length payload ≤ 1514 → frames kind payload ≤ length payload
unfolding frames
frames_most kind payload octets few = by (eqb kind 1)
  where
    by : (b : Bool) → cond b (length (reading AnnexG payload)) 0 ≤ length payload
    by true = omega (arith, few_reports AnnexG payload (omega arith) octets)
    by false = omega arith

-- a second of at most ten digits
abbrev pub TenDigits : Option ℕ → Type 0
TenDigits (Some s) = s < 10 ^ 10
TenDigits None = Unit {0}

-- the field of a time: every second's is its number
second_field : (s : ℕ) → time_field (Some s) ≡ field s
unfolding time_field
second_field s = refl

-- it has two octets, and at most nine more for the four of a second
time_most : (time : Option ℕ) → TenDigits time → length (time_field time) ≤ 2 + 3 * length (time_octets time)
unfolding time_field time_octets
time_most (Some s) few = omega (arith, length_field 9 s few, ap length (second_field s))
time_most None few = omega arith

-- so a record's line has at most 23 octets, and nine more with a time
pub line_most : (kind : ℕ) (time : Option ℕ) (payload : List ℕ) → Octets payload → kind ≤ 3 → TenDigits time → length payload ≤ 1514
    → length (record_line kind time payload) ≤ 23 + 3 * length (time_octets time)
unfolding line record_line
line_most kind time payload octets known ten few =
    simp length-append
    (omega (
      arith,
      length_field 0 kind (omega arith),
      length_field 3 (length payload) (omega arith),
      length_field 0 (cond (valid kind payload) 1 0) (bit (valid kind payload)),
      length_field 3 (frames kind payload) (omega (arith, frames_most kind payload octets few)),
      time_most time ten,
    ))
  where
    bit : (b : Bool) → cond b 1 0 < 10
    bit true = omega arith
    bit false = omega arith

-- the line of the numbers that the code finds
pub line_is : (kind : ℕ) (time : Option ℕ) (payload : List ℕ) {k v f : ℕ} {b : Bool}
    → k ≡ kind → b ≡ valid kind payload → v ≡ bool_byte b → f ≡ frames kind payload → line k (length payload) v f time ≡ record_line kind time payload
unfolding record_line
line_is kind time payload is-kind is-valid is-byte is-frames =
    rw (is-kind, is-byte, is-valid, is-frames)
    (ap (λ (v : ℕ). line kind (length payload) v (frames kind payload) time) (bit (valid kind payload)))
  where
    bit : (b : Bool) → bool_byte b ≡ cond b 1 0
    bit true = refl
    bit false = refl
