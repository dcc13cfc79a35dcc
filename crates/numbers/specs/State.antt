-- A state of the search for padding as three numbers: their layout in lent memory, and which numbers are a state.
-- Assumes nothing.
use Rattle.std.specs.Prelude.{ℕ, ◌≡◌, cond, ◌&&◌, List, [], ◌∷◌, leb, eqb, get_or, Option, Some, None}
use Rattle.std.specs.Option.{option_map_or}
use Rattle.padding.specs.State.{state}
use Rattle.padding.specs.Laws.{Follows}
use Rattle.padding.specs.declared.PaddingState.{PaddingState}

-- 1 if an octet came yet, 0 if not; the last octet; its run
abbrev pub state_numbers : PaddingState → List ℕ
state_numbers a = cond a.started 1 0 ∷ a.last ∷ a.run ∷ []

-- the state that three numbers name: the first is at most 1, and the second an octet
unfoldable pub state_of : List ℕ → Option PaddingState
state_of l =
    cond (leb (get_or l 0 0) 1 && leb (get_or l 1 0) 0xFF)
    (Some (state (eqb (get_or l 0 0) 1) (get_or l 1 0) (get_or l 2 0)))
    None

-- for the state that three numbers name; something else where they name none
abbrev pub of_state : {B : Type 0} → List ℕ → (PaddingState → B) → B → B
of_state l known unknown = option_map_or known (state_of l) unknown

-- numbers name a state that follows a with an octet more
abbrev pub NamesNext : PaddingState → ℕ → List ℕ → Type 0
NamesNext a x l = (r : PaddingState) × ((state_of l ≡ Some r) × Follows a x r)
