-- `patterns::ascii_text::text_length` meets its contract: of the first four octets, none is in no text.
-- Assumes nothing.
use Prim.Native.Nat.{ℕ, ◌+◌, ◌-◌, ◌<◌, ◌≤◌}
use mathlib.Core.Path.{◌≡◌}
use mathlib.Core.Bool.{true}
use native.Mathlib.Omega.{arith}
use lib.ListN.{length, get_or, take, drop}
use Rattle.std.proofs.Common.{rules}
use Rattle.std.proofs.iter.runs.Made.{chains}
use Rattle.patterns.specs.Entries.{printable}
use Rattle.patterns.specs.Steps.{Passed}
use Rattle.patterns.proofs.Texts.{passed_text}
use Rattle.patterns.proofs.ascii_text.text_length.Goals.{After-within_from}
use Rattle.patterns.proofs.ascii_text.text_length.Goals as goal

-- four that pass, and those behind them
passed : (c : goal.After-within_from) → Passed c.args.frame.now c.args.i (4 + c.within_from.result)
passed c =
    let s = c.args.frame.now in
    let i = c.args.i in
    let all : (j : ℕ) → j < length c.in-Some.first.now → printable (get_or c.in-Some.first.now j 0) ≡ true = search (rules, chains) in
    let enough : 4 ≤ length s - i = search rules in
    let same : c.in-Some.first.now ≡ take 4 (take (length s - i) (drop i s)) = c.in-Some.ensures.cases.same in
    passed_text s i enough same all c.within_from.ensures

pub overflow_add-result : goal.overflow_add-result
overflow_add-result c = omega (arith, (passed c).inside)

pub returns-in-None : goal.returns-in-None
returns-in-None c = passed c
