-- Which question of writing fails first.
-- Assumes nothing.
use mathlib.Core.Path.{◌≡◌}
use mathlib.Core.List.{List}
use Prim.Native.Nat.{ℕ, ◌≤◌, ◌<◌}
use borrow.Author.Tests.{le-leb, lt-leb}
use lib.ListN.{length}
use Rattle.octets.specs.Question.{first_no}
use Rattle.octets.proofs.Questions.{passed, failed, none_fails}
use Rattle.ethernet_encode.specs.Encode.{encode_questions}

module _ (frame out : List ℕ) where
  pub fails_24 : 1514 < length frame → 24 ≡ first_no (encode_questions frame out)
  unfolding encode_questions
  fails_24 many = failed 24 _ (lt-leb (length frame) 1514 many)

  module _ (few : length frame ≤ 1514) where
    pub fails_25 : length out < length frame → 25 ≡ first_no (encode_questions frame out)
    unfolding encode_questions
    fails_25 less =
        passed 24 _ (le-leb (length frame) 1514 few) (failed 25 _ (lt-leb (length frame) (length out) less))

    pub passes_both : length frame ≤ length out → first_no (encode_questions frame out) ≡ 0
    unfolding encode_questions
    passes_both room =
        none_fails (encode_questions frame out)
        (le-leb (length frame) 1514 few, (le-leb (length frame) (length out) room, tt))
