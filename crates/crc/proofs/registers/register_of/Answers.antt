-- `crc::registers::register_of` meets its contract: through the table of a constant it is the constant's register, which has its laws.
-- Assumes nothing.
use Rattle.std.proofs.Common.{rules, ◌≡◌, ◌∙◌, ◌^◌, ℕ, fold}
use Rattle.std.proofs.iter.runs.Made.{chains}
use Rattle.crc_tables.specs.Table.{table_of}
use Rattle.crc.specs.Check.{register}
use Rattle.crc.specs.Through.{octet_through}
use Rattle.crc.proofs.Laws.{goes_on, stays, one_start}
use Rattle.crc.proofs.Through.{through_register}
use Rattle.crc.proofs.Width.{AllBelow}
use Rattle.crc.proofs.registers.register_of.Given.{Over}
use Rattle.crc.proofs.registers.register_of.Goals as goal

module _ (g : Over) (c : goal.After-fold g) where
  octets : AllBelow (2 ^ 8) c.args.s.now
  octets i = (c.type_inv.s i).fits

  -- octet by octet through the table
  folded : c.fold.result ≡ fold (octet_through (g.T.CheckTable.entries c.args.table.now)) c.args.crc c.args.s.now
  folded = search (rules, chains)

  -- and so the constant's register
  registered : (k : ℕ) → g.T.CheckTable.entries c.args.table.now ≡ table_of k → c.fold.result ≡ register k c.args.crc c.args.s.now
  registered k of-k = folded ∙ through_register k of-k _ _

pub returns : goal.returns
returns g c =
    let is = registered g c in
    record {
      through = folded g c;
      value = is;
      continued = λ k more of-k. goes_on _ _ _ (is k of-k) more;
      fits = λ k w of-k. stays _ _ _ (is k of-k) (octets g c) w;
      injective = λ k w other of-k. one_start _ _ _ (is k of-k) (octets g c) w other;
    }
