-- What `decode` and `frame_data` answer, with what each promises beside its equation.
-- Assumes nothing.
use mathlib.Core.Path.{◌≡◌, sym, ap, ◌∙◌}
use mathlib.Core.List.{List, []}
use Prim.Native.Nat.{ℕ}
use Rattle.std.specs.Prelude.{Result, Ok, Err}
use Rattle.octets.specs.Refusal.{result_of}
use Rattle.octets.specs.declared.refusal.Refusal.{Refusal}
use Rattle.octets.proofs.Parts.{Octets}
use Rattle.octets.proofs.Questions.{answered_value, answered_refused}
use Rattle.octets.proofs.Refusals.{accepts, none_failed, one_failed, handed_on}
use Rattle.crc.specs.declared.CheckRule.{CheckRule}
use Rattle.mstp_decode.specs.declared.MstpHeader.{MstpHeader}
use Rattle.mstp_frame.specs.Fields.{data_part}
use Rattle.mstp_decode.specs.Change.{FindsChanges}
use Rattle.mstp_decode.specs.Decode.{decode_question, header_of, decode, frame_data}
use Rattle.mstp_decode.specs.Example.{Example}
use Rattle.mstp_decode.specs.Limits.{Limits}
use Rattle.mstp_decode.specs.RoundTrip.{WritesBack, DataOf}
use Rattle.mstp_decode.proofs.Accepted.{accepted}
use Rattle.mstp_decode.proofs.Example.{example}
use Rattle.mstp_decode.proofs.Finds.{finds_changes}
use Rattle.mstp_decode.proofs.Limits.{limits}
use Rattle.mstp_decode.proofs.ReadsBack.{data_back}
use Rattle.mstp_decode.proofs.WritesBack.{written_back}

module _ (rule : CheckRule) (s : List ℕ) where
  -- what an answer of `decode` promises
  pub record Decoded (answer : Result MstpHeader Refusal) : Type 0 where
    pub value : answer ≡ decode rule s
    pub back : WritesBack rule s answer
    pub changes : FindsChanges rule s answer
    pub example : Example
    pub limits : Limits

  decoded : {answer : Result MstpHeader Refusal} → Octets s → answer ≡ decode rule s → WritesBack rule s answer → Decoded answer
  decoded octets e written = record {
    value = e;
    back = written;
    changes = finds_changes rule s octets e;
    example = example;
    limits = limits;
  }

  -- whatever is the data of the octets is the data that they were written with
  abbrev Data : List ℕ → Type 0
  Data part = (part ≡ frame_data rule s) × DataOf rule s part

  data_of : {part : List ℕ} → part ≡ frame_data rule s → Data part
  data_of e = (e, λ t destination source body written. e ∙ ap (λ (l : List ℕ). frame_data rule l) written ∙ data_back rule t destination source body)

  -- where no question fails: the header, and the round trip
  module _ (none : decode_question rule s ≡ 0) where
    part_is : data_part s ≡ frame_data rule s
    unfolding frame_data
    part_is = sym (answered_value (λ _. []) (data_part s) none)

    pub frame_back : {header : MstpHeader} → Octets s → header ≡ header_of s → (Ok header ≡ decode rule s) × WritesBack rule s (Ok header)
    unfolding decode header_of
    frame_back octets e = (
      ap Ok e ∙ accepts (header_of s) none,
      rw (e, ← part_is) (written_back rule s octets (accepted rule s none)),
    )

  -- by what asking the questions answered
  module _ {r : Result (Unit {0}) Refusal} (asked : r ≡ result_of (decode_question rule s) tt) where
    pub decode_refused : {refusal : Refusal} → Octets s → r ≡ Err refusal → Decoded (Err refusal)
    unfolding decode
    decode_refused octets err = decoded octets (handed_on tt _ asked (header_of s) err) tt

    pub decode_accepted : {header : MstpHeader} → Octets s → r ≡ Ok tt → header ≡ header_of s → Decoded (Ok header)
    decode_accepted octets ok e =
        let b = frame_back (none_failed tt _ asked ok).0 octets e in decoded octets b.0 b.1

    pub data_refused : {refusal : Refusal} → r ≡ Err refusal → Data []
    unfolding frame_data
    data_refused err = data_of (sym (answered_refused (λ _. []) (data_part s) _ (one_failed tt _ asked err).0))

    pub data_accepted : {part : List ℕ} → r ≡ Ok tt → part ≡ data_part s → Data part
    data_accepted ok e = data_of (e ∙ part_is (none_failed tt _ asked ok).0)
