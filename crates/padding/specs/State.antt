-- The state of the search for padding, after some octets and with an octet more.
-- Assumes nothing.
use Rattle.std.specs.Prelude.{ℕ, ◌+◌, ◌-◌, ◌^◌, Bool, true, cond, List, leb, ltb, eqb, length}
use Rattle.padding.specs.Padding.{last, end_length}
use Rattle.padding.specs.declared.PaddingState.{PaddingState}

-- a state: whether an octet came yet, the last one, and its run
abbrev pub state : Bool → ℕ → ℕ → PaddingState
state came x n = record { started = came; last = x; run = n }

-- the state after some octets: whether there are any, the last one, and its run back to index 1, however short
unfoldable pub after : List ℕ → PaddingState
after s = state (ltb 0 (length s)) (last s) (end_length s)

-- one more; the largest number stays
unfoldable pub one_more : ℕ → ℕ
one_more n = cond (ltb n (2 ^ 64 - 1)) (n + 1) n

-- the run with an octet more: 0 for the first octet, one more for the last one again, else 1
unfoldable pub run_with : PaddingState → ℕ → ℕ
run_with a x = cond a.started (cond (eqb x a.last) (one_more a.run) 1) 0

-- the state with an octet more
abbrev pub next : PaddingState → ℕ → PaddingState
next a x = state true x (run_with a x)

-- how many octets are padding: the run, if it has at least 4
unfoldable pub counted : PaddingState → ℕ
counted a = cond (leb 4 a.run) a.run 0
