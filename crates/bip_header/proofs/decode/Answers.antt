-- `bip_header::decode` meets its contract: each test is a question, asked in their order.
-- Assumes nothing.
use mathlib.Core.Path.{refl, ap₂, ◌∙◌}
use Prim.Native.Nat.{ℕ}
use borrow.Author.Tests.{eq-eqb, ne_eqb, le-leb, lt-leb}
use Rattle.std.proofs.lemmas.Result.{err_from_is_err_and}
use Rattle.std.specs.Prelude.{Ok}
use Rattle.octets.proofs.Refusals.{accepts, passes, fails, none_failed, handed_on}
use Rattle.bip_header.specs.declared.function.BvlcFunction.{BvlcFunction}
use Rattle.bip_header.specs.Header.{new_header, header_questions, header_question, message_function, message_length, decode}
use Rattle.bip_header.proofs.Functions.{asked}
use Rattle.bip_header.proofs.decode.Goals as goal

pub returns-in_default-clause-value : goal.returns-in_default-clause-value
unfolding decode header_question header_questions
returns-in_default-clause-value c = fails _ 11 _ refl (lt-leb _ _ c.in_default.len_below)

pub returns-then-bvlc_type-clause-value : goal.returns-then-bvlc_type-clause-value
unfolding decode header_question header_questions
returns-then-bvlc_type-clause-value c =
    passes _ 11 _ (le-leb _ _ c.in-len4-up.len_at_least) (fails _ 12 _ refl (ne_eqb _ _ c.if-bvlc_type.true))

pub returns-in_err-try_from-clause-value : goal.returns-in_err-try_from-clause-value
unfolding decode header_question header_questions
returns-in_err-try_from-clause-value c =
    let p = err_from_is_err_and c.from_residual.result c.from_residual.ensures.1 in
    rw (p.1, p.2) (passes _ 11 _ (le-leb _ _ c.in-len4-up.len_at_least)
    (passes _ 12 _ (eq-eqb _ _ c.if-bvlc_type.false) (handed_on _ _ (c.try_from.ensures.0 ∙ asked _) _ c.in_err-try_from.was)))

pub returns-clause-value : goal.returns-clause-value
unfolding decode header_question header_questions message_function message_length
returns-clause-value c =
    let f = none_failed _ _ (c.try_from.ensures.0 ∙ asked _) c.in_ok-try_from.was in
    passes _ 11 _ (le-leb _ _ c.in-len4-up.len_at_least)
    (passes _ 12 _ (eq-eqb _ _ c.if-bvlc_type.false)
    (ap₂ (λ (g : BvlcFunction) (n : ℕ). Ok (new_header g n)) f.1 c.from_be_bytes.ensures ∙ accepts _ f.0))
