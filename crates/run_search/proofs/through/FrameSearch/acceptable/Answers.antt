-- `run_search::through::FrameSearch::acceptable` meets its contract: each test rules a frame out, and behind the others questions 5 and 6 decide.
-- Assumes nothing.
use mathlib.Core.Path.{refl}
use native.Mathlib.Omega.{arith}
use Rattle.std.proofs.lemmas.Bool.Decides.{nat_tests}
use Rattle.run_search.proofs.Asked.{tested, untested}
use Rattle.run_search.proofs.through.FrameSearch.acceptable.Goals as goal

pub returns : goal.returns
returns c =
    rw (← (tested c.args.self.now.rule c.args.frame.now (λ i. (c.type_inv.frame i).fits) c.data_question.ensures)) (grind (arith, nat_tests))

pub returns-then-frame-lt-MSTP_HEADER_SIZE : goal.returns-then-frame-lt-MSTP_HEADER_SIZE
returns-then-frame-lt-MSTP_HEADER_SIZE c =
    untested c.args.self.now.rule c.args.frame.now (λ i. (c.type_inv.frame i).fits) (grind (arith, nat_tests)) refl
