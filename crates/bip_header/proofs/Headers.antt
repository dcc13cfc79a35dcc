-- What reading and writing a header answer, with the round trip that each promises.
-- Assumes nothing.
use mathlib.Core.Path.{◌≡◌, refl, sym, ap₂, ◌∙◌}
use mathlib.Core.List.{List, [], ◌∷◌, ◌++◌}
use Prim.Native.Nat.{ℕ, ◌/◌, ◌%◌, ◌≤◌, ◌<◌}
use native.Mathlib.Omega.{arith}
use borrow.Author.Tests.{leb-true, eqb-true, le-leb, lt-leb}
use lib.Dec.{leb}
use lib.ListN.{length, get_or, take, drop}
use Rattle.std.specs.Prelude.{Result, Ok}
use Rattle.octets.specs.Number.{number}
use Rattle.octets.specs.Question.{ask}
use Rattle.octets.specs.Output.{at_front}
use Rattle.octets.specs.Refusal.{refused, result_of}
use Rattle.octets.specs.declared.refusal.Refusal.{Refusal}
use Rattle.octets.proofs.Numbers.{number_of, high_first_of}
use Rattle.octets.proofs.Outputs.{refuses, writes}
use Rattle.octets.proofs.Parts.{Octets, part_is}
use Rattle.octets.proofs.Questions.{failed, all_yes, none_fails}
use Rattle.octets.proofs.Refusals.{accepts}
use Rattle.bip_header.specs.declared.function.BvlcFunction.{BvlcFunction}
use Rattle.bip_header.specs.declared.BvlcHeader.{BvlcHeader}
use Rattle.bip_header.specs.Function.{function_number, function_of}
use Rattle.bip_header.specs.Header.{header_octets, new_header, header_questions, header_question, message_function, message_length, decode, encode_question, encode_answer, encode_output}
use Rattle.bip_header.specs.RoundTrip.{GivesBack, ReadsBack}
use Rattle.bip_header.proofs.Functions.{function_back, number_back}

-- a header's octets, with any behind them, read back
pub header_back : (f : BvlcFunction) (n : ℕ) (rest : List ℕ) → decode (header_octets f n ++ rest) ≡ Ok (new_header f n)
unfolding decode header_question header_questions message_function message_length
header_back f n rest =
    let back = function_back f in
    let none : header_question (header_octets f n ++ rest) ≡ 0
    = none_fails (header_questions (header_octets f n ++ rest))
    (le-leb 4 (length (header_octets f n ++ rest)) (omega arith), (refl, (back.0, tt))) in
    sym (accepts (new_header (function_of (function_number f)) (number (n / 256) (n % 256))) none)
    ∙ ap₂ (λ (g : BvlcFunction) (k : ℕ). Ok (new_header g k)) back.1 (number_of n)

module _ (s : List ℕ) where
  -- the header that stands in front of some octets
  abbrev pub read : BvlcHeader
  read = new_header (message_function s) (message_length s)

  -- the answer of reading
  pub asks : decode s ≡ result_of (header_question s) read
  unfolding decode
  asks = refl

  -- where no question fails, the header written anew is the first four octets
  pub four_octets : Octets s → header_question s ≡ 0 → take 4 s ≡ header_octets (message_function s) (message_length s)
  unfolding header_question header_questions message_function message_length
  four_octets octets none =
      let all = all_yes (header_questions s) tt none in
      part_is 0 4 s (leb-true 4 (length s) all.0)
      ∙ rw (eqb-true (get_or s 0 0) 0x81 all.1.0, number_back (get_or s 1 0) (leb-true (get_or s 1 0) 0x0C all.1.1.0), high_first_of (get_or s 2 0) (get_or s 3 0) (octets 3))

-- what writing answers and leaves, and what it promises
module _ (f : BvlcFunction) (n : ℕ) (out : List ℕ) where
  abbrev Encoded : Result ℕ Refusal → List ℕ → Type 0
  Encoded answer l =
      (answer ≡ encode_answer f n out) × ((l ≡ encode_output f n out) × ReadsBack f n l answer)

  pub no_room : length out < 4 → Encoded (refused 16) out
  unfolding encode_answer encode_output encode_question
  no_room h =
      refuses (GivesBack f n) (header_octets f n) out (failed 16 [] (lt-leb 4 (length out) h)) (λ z. omega arith)

  pub written : 4 ≤ length out → {number count : ℕ} {l : List ℕ}
      → number ≡ function_number f
      → count ≡ 4
      → l ≡ (0x81 ∷ number ∷ n / 256 ∷ n % 256 ∷ []) ++ drop 4 out
      → Encoded (Ok count) l
  unfolding encode_answer encode_output encode_question at_front
  written room {number} {count} {l} en ec el =
      let none : encode_question out ≡ 0 = none_fails (ask 16 (leb 4 (length out)) ∷ []) (le-leb 4 (length out) room, tt) in
      writes (GivesBack f n) (header_octets f n) out (header_back f n) none ec front
    where
      front : l ≡ at_front (header_octets f n) out
      front = rw (el, en)
