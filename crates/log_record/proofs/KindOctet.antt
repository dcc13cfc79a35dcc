-- The octet of a kind tells the kind, and whether there is a time.
-- Assumes nothing.
use mathlib.Core.Path.{◌≡◌, sym, ap, ◌∙◌}
use mathlib.Core.Bool.{Bool, true, false}
use mathlib.Core.List.{List}
use Prim.Native.Nat.{ℕ, ◌+◌, ◌-◌, ◌≤◌}
use native.Mathlib.Omega.{arith}
use lib.ListN.{length}
use Rattle.std.specs.Prelude.{Option, Some, None}
use Rattle.octets.proofs.Ranges.{within_true, within_is, within_not}
use Rattle.log_record.specs.Kind.{known_kind}
use Rattle.log_record.specs.Record.{time_octets, kind_octet}
use Rattle.log_record.specs.Read.{timed, kind_of, octet_before, second_before, time_before}

-- the octet of a known kind
module _ (kind : ℕ) (known : known_kind kind ≡ true) where
  pub with_time : timed (kind + 10) ≡ true
  with_time = let k = within_true 1 3 kind known in within_is 0x0B 0x0D (kind + 10) (omega (arith, k.0)) (omega (arith, k.1))

  pub without_time : timed kind ≡ false
  without_time = let k = within_true 1 3 kind known in within_not 0x0B 0x0D kind (omega (arith, k.1))

  -- stands for that kind
  pub kind_there : (time : Option ℕ) → kind_of (kind_octet kind time) ≡ kind
  unfolding kind_of kind_octet
  kind_there (Some s) = rw with_time (omega arith)
  kind_there None = rw without_time

-- an octet, by the test whether there is a time
module _ (octet : ℕ) {b : Bool} (asked : b ≡ timed octet) where
  pub ten_most : b ≡ true → 10 ≤ octet
  ten_most e = omega (arith, (within_true 0x0B 0x0D octet (sym asked ∙ e)).0)

  pub kind_timed : b ≡ true → octet - 10 ≡ kind_of octet
  unfolding kind_of
  kind_timed e = rw (sym asked ∙ e)

  pub kind_plain : b ≡ false → octet ≡ kind_of octet
  unfolding kind_of
  kind_plain e = rw (sym asked ∙ e)

-- the time before an end, by that test
module _ (log : List ℕ) (end : ℕ) {b : Bool} (asked : b ≡ timed (octet_before log end)) where
  pub second_read : b ≡ true → time_before log end ≡ Some (second_before log end)
  unfolding time_before
  second_read e = rw (sym asked ∙ e)

  pub none_read : b ≡ false → time_before log end ≡ None
  unfolding time_before
  none_read e = rw (sym asked ∙ e)

  pub four_octets : b ≡ true → length (time_octets (time_before log end)) ≡ 4
  unfolding time_octets
  four_octets e = ap (λ (t : Option ℕ). length (time_octets t)) (second_read e)

  pub no_octet : b ≡ false → length (time_octets (time_before log end)) ≡ 0
  unfolding time_octets
  no_octet e = ap (λ (t : Option ℕ). length (time_octets t)) (none_read e)

-- a time has four octets at most
pub time_few : (time : Option ℕ) → length (time_octets time) ≤ 4
unfolding time_octets
time_few (Some s) = omega arith
time_few None = omega arith
