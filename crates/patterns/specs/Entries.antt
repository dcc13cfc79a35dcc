-- The patterns of a frame as entries, in order: padding, texts, zeros, sequence.
-- Assumes nothing.
use Rattle.std.specs.Prelude.{ℕ, ◌-◌, Bool, ◌&&◌, leb, eqb, List, [], ◌∷◌, ◌++◌, length}
use Rattle.std.specs.Bool.{then_some}
use Rattle.std.specs.List.{starts_with, flat_map}
use Rattle.std.specs.Option.{option_to_list}
use Rattle.octets.specs.Range.{within}
use Rattle.runs.specs.Front.{is, front}
use Rattle.padding.specs.Padding.{last, padding_length}
use Rattle.patterns.specs.Stretches.{Stretch, stretches}
use Rattle.patterns.specs.declared.pattern.Pattern.{Pattern}
use Rattle.patterns.specs.declared.pattern.Pattern.TheVariants.{Padding, AsciiText, Zeros, Sequence}

-- the number of padding
abbrev pub padding_pattern : ℕ
padding_pattern = 1

-- of a text
abbrev pub text_pattern : ℕ
text_pattern = 2

-- of zeros
abbrev pub zeros_pattern : ℕ
zeros_pattern = 3

-- of the sequence
abbrev pub sequence_pattern : ℕ
sequence_pattern = 4

-- a pattern that is there under a condition
abbrev pub when : Bool → Pattern → List Pattern
when b e = option_to_list (then_some b e)

-- the padding, if there is one
unfoldable pub padding : List ℕ → List Pattern
padding s = when (leb 4 (padding_length s)) (Padding (length s - padding_length s) (padding_length s) (last s))

-- octets of a text: 20 to 7E
abbrev pub printable : ℕ → Bool
printable = within 0x20 0x7E

-- a stretch is a text if it has at least 4 octets
unfoldable pub text : Stretch → List Pattern
text t = when (leb 4 t.length) (AsciiText t.start t.length)

-- the texts, earliest first
unfoldable pub texts : List ℕ → List Pattern
texts s = flat_map text (stretches printable s)

-- the octets before the padding are at least 8 (so the frame has at least 8), and all of them are 00
unfoldable pub has_zeros : List ℕ → Bool
has_zeros s = leb 8 (length s - padding_length s) && leb (length s - padding_length s) (front (is 0) s)

-- 00 to 07 in front
abbrev pub has_sequence : List ℕ → Bool
has_sequence s = starts_with eqb s (0 ∷ 1 ∷ 2 ∷ 3 ∷ 4 ∷ 5 ∷ 6 ∷ 7 ∷ [])

-- all patterns in order
unfoldable pub entries : List ℕ → List Pattern
entries s = padding s ++ (texts s ++ (when (has_zeros s) Zeros ++ when (has_sequence s) Sequence))

-- the numbers of an entry: pattern, start, length, octet value; zeros and the sequence have but the first
abbrev pub numbers_of : Pattern → List ℕ
numbers_of (Padding i n v) = padding_pattern ∷ i ∷ n ∷ v ∷ []
numbers_of (AsciiText i n) = text_pattern ∷ i ∷ n ∷ 0 ∷ []
numbers_of Zeros = zeros_pattern ∷ 0 ∷ 0 ∷ 0 ∷ []
numbers_of Sequence = sequence_pattern ∷ 0 ∷ 0 ∷ 0 ∷ []

-- the numbers of some entries, four for each
unfoldable pub entry_numbers : List Pattern → List ℕ
entry_numbers es = flat_map numbers_of es
