-- The text of the check tables: a line for each entry.
-- Assumes nothing.
use Rattle.std.specs.Prelude.{ℕ}
use mathlib.Core.List.{List, ◌++◌, flat_map}
use Rattle.text.specs.Text.{letters, hexadecimal}
use Rattle.crc_tables.specs.Table.{table_of}
use Rattle.crc.specs.Rule.{header_constant, data_constant}
use Rattle.crc.specs.declared.CheckRule.{CheckRule}
use Rattle.crc.specs.declared.CheckRule.TheVariants.{AnnexG, House}

-- an entry's line, of so many hexadecimal digits
unfoldable pub entry_line : ℕ → ℕ → List ℕ
entry_line digits entry = hexadecimal digits entry ++ letters "\n"

-- a table's lines, entry 0 first
unfoldable pub table_lines : ℕ → List ℕ → List ℕ
table_lines digits table = flat_map (entry_line digits) table

-- a rule's tables: the header's of two digits, then the data's of four
unfoldable pub rule_text : CheckRule → List ℕ
rule_text rule = table_lines 2 (table_of (header_constant rule)) ++ table_lines 4 (table_of (data_constant rule))

-- what is printed: Annex G's tables, then the house's
unfoldable pub tables_text : List ℕ
tables_text = rule_text AnnexG ++ rule_text House
