-- The lines that are printed: one for each change that is read, and one that counts.
-- Assumes nothing.
use Rattle.std.specs.Prelude.{ℕ, get_or, take, drop}
use mathlib.Core.List.{List, [], ◌∷◌, ◌++◌, flat_map}
use Rattle.text.specs.Text.{letters, texts, field, hexadecimal}

-- a space and an octet in two hexadecimal digits
unfoldable pub behind_space : ℕ → List ℕ
behind_space octet = letters " " ++ hexadecimal 2 octet

-- some octets, with a space between two
unfoldable pub spaced : List ℕ → List ℕ
spaced s = hexadecimal 2 (get_or s 0 0) ++ flat_map behind_space (drop 1 s)

-- a change's line: the header of the frame, and of the frame as changed
unfoldable pub change_line : List ℕ → List ℕ → List ℕ
change_line frame changed = texts (spaced (take 8 frame) ∷ letters " read as " ∷ spaced (take 8 changed) ∷ letters "\n" ∷ [])

-- a rule's last line: its name, how many changes there were, and how many of them were read
unfoldable pub count_line : List ℕ → ℕ → ℕ → List ℕ
count_line name changes read = texts (name ∷ field changes ∷ letters " changes," ∷ field read ∷ letters " read\n" ∷ [])
