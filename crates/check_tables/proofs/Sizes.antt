-- How many octets the text has, and that it fills the memory that has as many.
-- Assumes nothing.
use mathlib.Core.Path.{◌≡◌, refl, ap, ◌∙◌}
use mathlib.Core.List.{List, [], ◌∷◌, flat_map}
use Prim.Native.Nat.{ℕ, zero, suc, ◌/◌, ◌*◌}
use native.Mathlib.Nat.{suc-mul}
use native.Mathlib.Omega.{arith}
use lib.ListN.{length, length-append}
use Rattle.io.specs.Counts.{IsPrefixLen}
use Rattle.io.proofs.Counting.{prefix_len_of_le}
use Rattle.octets.specs.Put.{Put}
use Rattle.octets.proofs.Puts.{put_front, put_whole}
use Rattle.text.specs.Text.{hexadecimal}
use Rattle.crc_tables.specs.Table.{entries, table_of}
use Rattle.crc.specs.declared.CheckRule.{CheckRule}
use Rattle.check_tables.specs.Text.{entry_line, table_lines, rule_text, tables_text}

-- k digits are k octets
length_digits : (k n : ℕ) → length (hexadecimal k n) ≡ k
length_digits zero n = refl
length_digits (suc k) n = simp length-append (omega (arith, length_digits k (n / 16)))

-- an entry's line has one more, for the newline
length_entry : (digits entry : ℕ) → length (entry_line digits entry) ≡ suc digits
unfolding entry_line
length_entry digits entry = simp (length-append, length_digits) (omega arith)

length_lines : (digits : ℕ) (table : List ℕ) → length (table_lines digits table) ≡ length table * suc digits
unfolding table_lines flat_map
length_lines digits [] = omega arith
length_lines digits (entry ∷ table) =
    simp (length-append, length_entry) (omega (arith, length_lines digits table, suc-mul (length table) (suc digits)))

length_entries : (k i n : ℕ) → length (entries k i n) ≡ n
unfolding entries
length_entries k i zero = refl
length_entries k i (suc n) = ap suc (length_entries k (suc i) n)

-- a check table has 256 lines
length_table : (digits k : ℕ) → length (table_lines digits (table_of k)) ≡ 256 * suc digits
unfolding table_of
length_table digits k = length_lines digits (table_of k) ∙ ap (λ (n : ℕ). n * suc digits) (length_entries k 0 256)

pub length_rule : (rule : CheckRule) → length (rule_text rule) ≡ 2048
unfolding rule_text
length_rule rule = simp (length-append, length_table)

pub length_text : length tables_text ≡ 4096
unfolding tables_text
length_text = simp (length-append, length_rule)

-- what is there, and how many octets of it, after a text was put that has as many as the memory
pub fills : {text before after : List ℕ} {n : ℕ} → length text ≡ length before → Put text before 0 after n
    → (n ≡ length text) × ((after ≡ text) × IsPrefixLen n after)
fills {text} {before} {after} {n} same put =
    let count = (put_front put).0 in
    let all = put_whole same put in
    (count, (all, prefix_len_of_le n after (omega (arith, count, ap length all))))
