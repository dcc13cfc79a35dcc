-- What was seen of a frame before its texts are searched.
-- Assumes nothing.
use Rattle.std.specs.Prelude.{List, ◌++◌}
use Rattle.std.specs.Option.{option_to_list}
use Rattle.patterns.specs.Entries.{when, texts}
use Rattle.patterns.specs.declared.pattern.Pattern.{Pattern}
use Rattle.patterns.specs.declared.pattern.Pattern.TheVariants.{Zeros, Sequence}
use Rattle.patterns.specs.declared.seen.Seen.{Seen}

-- all patterns of the frame: those seen, and the texts of the part that has them
abbrev pub entries_seen : Seen → List Pattern
entries_seen t = option_to_list t.padding ++ (texts t.text_part.now ++ (when t.zeros Zeros ++ when t.sequence Sequence))
