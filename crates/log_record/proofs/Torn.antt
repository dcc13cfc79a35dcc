-- A record that has lost octets at its front, where the log begins with what is left of it.
-- Assumes nothing.
use mathlib.Core.Path.{◌≡◌, refl, sym, ap, ◌∙◌}
use mathlib.Core.Bool.{true}
use mathlib.Core.List.{List, ◌++◌, append_assoc}
use Prim.Native.Nat.{ℕ, ◌+◌, ◌-◌, ◌≤◌, ◌<◌}
use native.Mathlib.Omega.{arith}
use lib.ListN.{length, take, drop, length-append, length-drop}
use lib.Seq.{drop-append-le, length-take-le}
use Rattle.std.specs.Prelude.{Option, Some, None}
use Rattle.octets.specs.Refusal.{refused}
use Rattle.log_record.specs.Kind.{known_kind}
use Rattle.log_record.specs.Record.{allowed_size, time_octets, kind_octet, trailer, record_octets}
use Rattle.log_record.specs.Read.{timed, kind_of, octet_before, time_before, read_record}
use Rattle.log_record.proofs.KindOctet.{with_time, without_time, kind_there, four_octets, no_octet}
use Rattle.log_record.proofs.Read.{no_octets, none_read}
use Rattle.log_record.proofs.Ends.{octet_there, length_there}

-- the octet of a kind tells how many octets the time has
time_size : (log : List ℕ) (end kind : ℕ) → known_kind kind ≡ true → (time : Option ℕ) → octet_before log end ≡ kind_octet kind time
    → length (time_octets time) ≡ length (time_octets (time_before log end))
unfolding kind_octet time_octets
time_size log end kind known (Some s) e = sym (four_octets log end refl (ap timed e ∙ with_time kind known))
time_size log end kind known None e = sym (no_octet log end refl (ap timed e ∙ without_time kind known))

-- the last octets of a record, its trailer among them, but not all: 44
pub torn_there : (log : List ℕ) (kind : ℕ) (time : Option ℕ) (payload : List ℕ) (lost end : ℕ) → end ≤ length log
    → take end log ≡ drop lost (record_octets kind time payload) → known_kind kind ≡ true → allowed_size (length payload) ≡ true
    → 0 < lost → 3 ≤ end → refused 44 ≡ read_record log end
unfolding record_octets
torn_there log kind time payload lost end fits stands known sized some three =
    let last = trailer (kind_octet kind time) (length payload) in
    let front = payload ++ time_octets time in
    let whole : payload ++ (time_octets time ++ last) ≡ front ++ last = sym (append_assoc payload (time_octets time) last) in
    let size = length-append payload (time_octets time) in
    let all : end ≡ length front + 3 - lost
    = omega (arith, length-take-le end log fits, ap length (stands ∙ ap (drop lost) whole), length-drop lost (front ++ last), length-append front last) in
    let rest : take end log ≡ drop lost front ++ last = stands ∙ ap (drop lost) whole ∙ drop-append-le lost front last (omega arith) in
    let octet = octet_there log (drop lost front) (kind_octet kind time) (length payload) end fits rest in
    let same : kind_of (octet_before log end) ≡ kind = ap kind_of octet ∙ kind_there kind known time in
    none_read log end (omega arith) fits
    (no_octets log end three (sym same) known (length_there log (drop lost front) (kind_octet kind time) (length payload) end fits rest) {sized = true} (sym sized)
    refl
    (time_size log end kind known time octet)
    (omega arith))
    refl
