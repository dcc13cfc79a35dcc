-- `check_tables::put_rule` meets its contract: the header table's lines, and behind them the data table's.
-- Assumes nothing.
use mathlib.Core.Path.{◌≡◌, ap}
use mathlib.Core.List.{◌++◌}
use native.Mathlib.Omega.{arith}
use lib.ListN.{length, length-append}
use Rattle.octets.proofs.Puts.{put_size, put_more, put_is}
use Rattle.check_tables.specs.Text.{table_lines, rule_text}
use Rattle.check_tables.proofs.put_rule.Goals.{After-data_table-data}
use Rattle.check_tables.proofs.put_rule.Goals as goal

-- the text's two parts
parts : (c : goal.After-data_table-data)
    → table_lines 2 c.header_table-headers.result ++ table_lines 4 c.data_table-data.result
    ≡ rule_text c.args.rule
unfolding rule_text
parts c = rw (c.header_table-headers.ensures, c.data_table-data.ensures)

pub put_headers-behind-requires : goal.put_headers-behind-requires
put_headers-behind-requires c = omega (arith, simp length-append at (ap length (parts (goal.at.put_headers-behind-requires c).After-data_table-data)))

pub put_data-requires : goal.put_data-requires
put_data-requires c =
    let put = c.put_headers-behind.ensures in
    omega (arith, put.place, put_size put, simp length-append at (ap length (parts (goal.at.put_data-requires c).After-data_table-data)))

pub returns : goal.returns
returns c = put_is (parts (goal.at.returns c).After-data_table-data) (put_more c.put_headers-behind.ensures c.put_data.ensures)
