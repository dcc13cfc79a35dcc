-- A check through a table of 256 entries, whatever they are.
-- Assumes nothing.
use Rattle.std.specs.Prelude.{◌≡◌, List, [], ◌∷◌, ℕ, ◌-◌, ◌/◌, ◌%◌, get_or}
use Rattle.std.specs.Int.Bits.{bit_xor}
use Rattle.crc_tables.specs.Table.{table_of}
use Rattle.crc.specs.Rule.{header_constant, header_check}
use Rattle.crc.specs.declared.CheckRule.{CheckRule}

-- the register after an octet, from x: XOR it in; the low octet's entry, with the high octet moved down XORed in
unfoldable pub octet_through : List ℕ → ℕ → ℕ → ℕ
octet_through table x octet = bit_xor (get_or table (bit_xor x octet % 256) 0) (bit_xor x octet / 256)

-- a register of eight bits after the octets of a list, from x: each octet XORed in, and the table's entry taken
unfoldable pub through : List ℕ → ℕ → List ℕ → ℕ
through table x [] = x
through table x (octet ∷ octets) = through table (get_or table (bit_xor x octet) 0) octets

-- the header check: start with all bits one, and complement at the end
unfoldable pub check_through : List ℕ → List ℕ → ℕ
check_through table octets = 0xFF - through table 0xFF octets

-- through a rule's table it is the rule's check
abbrev pub RuleThrough : List ℕ → List ℕ → ℕ → Type 0
RuleThrough table octets check = (rule : CheckRule) → table ≡ table_of (header_constant rule) → check ≡ header_check rule octets
