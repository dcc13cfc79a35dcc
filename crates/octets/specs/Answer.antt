-- What is told of a call's answer: its number, and what goes with its value.
-- Assumes nothing.
use Rattle.std.specs.Prelude.{ℕ, Result, Ok, Err}
use Rattle.octets.specs.Refusal.{refusal_number}
use Rattle.octets.specs.declared.refusal.Refusal.{Refusal}

module _ {A : Type 0} where
  -- an answer's number: 0 where there is a value, else that of the question
  abbrev pub answer_number : Result A Refusal → ℕ
  answer_number (Ok value) = 0
  answer_number (Err refusal) = refusal_number refusal

  -- what is made of the value; where there is none, what stood there before
  abbrev pub made_of : {B : Type 0} → (A → B) → B → Result A Refusal → B
  made_of make before (Ok value) = make value
  made_of make before (Err refusal) = before
