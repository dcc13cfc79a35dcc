-- Laws of kinds and their numbers.
-- Assumes nothing.
use mathlib.Core.Path.{◌≡◌, refl}
use mathlib.Core.Bool.{Bool, true, false}
use mathlib.Core.List.{[], ◌∷◌}
use Prim.Native.Nat.{ℕ, zero, suc, ◌≤◌}
use native.Mathlib.Omega.{arith}
use Rattle.std.specs.Prelude.{Result, Ok, Err}
use Rattle.octets.specs.Question.{ask, first_no}
use Rattle.octets.specs.Range.{within}
use Rattle.octets.specs.Refusal.{refusal_of}
use Rattle.octets.specs.declared.refusal.Refusal.{Refusal}
use Rattle.octets.proofs.Questions.{all_yes}
use Rattle.octets.proofs.Ranges.{within_true}
use Rattle.octets.proofs.Refusals.{none_failed, one_failed}
use Rattle.log_record.specs.Kind.{kind_number, kind_numbered, known_kind, kind_answer}
use Rattle.log_record.specs.declared.kind.RecordKind.{RecordKind}
use Rattle.log_record.specs.declared.kind.RecordKind.TheVariants.{Bus, Ip, Ethernet}

-- the number of the kind with a number is that number
pub number_back : (n : ℕ) → known_kind n ≡ true → kind_number (kind_numbered n) ≡ n
number_back n known = by n (within_true 1 3 n known)
  where
    by : (n : ℕ) → (1 ≤ n) × (n ≤ 3) → kind_number (kind_numbered n) ≡ n
    by zero h = absurd (omega arith)
    by (suc zero) h = refl
    by (suc (suc zero)) h = refl
    by (suc (suc (suc zero))) h = refl
    by (suc (suc (suc (suc n)))) h = absurd (omega arith)

-- the kind with the number of a kind is that kind
pub kind_back : (kind : RecordKind) → kind_numbered (kind_number kind) ≡ kind
kind_back Bus = refl
kind_back Ip = refl
kind_back Ethernet = refl

-- and the number is one of those that there are
pub number_known : (kind : RecordKind) → known_kind (kind_number kind) ≡ true
unfolding within
number_known Bus = refl
number_known Ip = refl
number_known Ethernet = refl

-- a kind was answered, or question 42
module _ (n : ℕ) {r : Result RecordKind Refusal} (asked : r ≡ kind_answer n) where
  pub kind_read : {kind : RecordKind} → r ≡ Ok kind → (known_kind n ≡ true) × (kind ≡ kind_numbered n)
  unfolding kind_answer
  kind_read ok =
      let a = none_failed _ _ asked ok in ((all_yes (ask 42 (known_kind n) ∷ []) tt a.0).0, a.1)

  pub no_kind_read : {e : Refusal} → r ≡ Err e → (known_kind n ≡ false) × (e ≡ refusal_of 42)
  unfolding kind_answer first_no
  no_kind_read {e} err = by (known_kind n) (one_failed _ _ asked err)
    where
      by : (b : Bool) → (first_no (ask 42 b ∷ []) ≡ 0 → ⊥) × (e ≡ refusal_of (first_no (ask 42 b ∷ []))) → (b ≡ false) × (e ≡ refusal_of 42)
      by true a = absurd (a.0 refl)
      by false a = (refl, a.1)
