-- The state before the first octet as numbers.
-- Assumes nothing.
use mathlib.Core.Path.{◌≡◌, refl}
use mathlib.Core.List.{[], ◌∷◌}
use Rattle.std.specs.Prelude.{Some}
use Rattle.runs.specs.Front.{front}
use Rattle.padding.specs.Padding.{end_length}
use Rattle.padding.specs.State.{after}
use Rattle.numbers.specs.State.{state_of}

-- three zeros name it
pub zeros : state_of (0 ∷ 0 ∷ 0 ∷ []) ≡ Some (after [])
unfolding state_of after end_length front
zeros = refl
