-- The text of a log is in front of the lent memory; of a written log, torn or not, it is the lines of its entries.
-- Assumes nothing.
use mathlib.Core.Path.{◌≡◌, refl, sym, ap, subst, ◌∙◌}
use mathlib.Core.List.{List, [], ◌∷◌, ◌++◌, map, flat_map}
use Prim.Native.Nat.{ℕ, ◌≤◌, ◌<◌}
use borrow.Author.Tests.{le-leb, lt-leb}
use native.Mathlib.Omega.{arith}
use lib.ListN.{length}
use lib.Seq.{take-length, length-sets}
use Rattle.io.specs.Counts.{IsPrefixLen}
use Rattle.io.proofs.Counting.{prefix_len_of_le}
use Rattle.octets.specs.Output.{at_front}
use Rattle.log_record.specs.Record.{Entry}
use Rattle.log_record.specs.declared.LogRecord.{LogRecord}
use Rattle.log_reading.specs.Reading.{Listed, count_answer}
use Rattle.log_reading.specs.Written.{entry_in, ReadsAs}
use Rattle.log_reading.specs.Torn.{whole_entries, rest}
use Rattle.log_reading.proofs.Reading.{whole_back, counts_back}
use Rattle.log_reading.proofs.Torn.{reads_torn}
use Rattle.log_reading.proofs.Written.{reads_all}
use Rattle.text.specs.Text.{letters}
use Rattle.octets.specs.Put.{Put}
use Rattle.log_listing.specs.Listing.{entry_line, line_of, last_line, lines, log_lines, if_read, listing, ListsWritten, ListsTorn}
use Rattle.octets.proofs.Puts.{put_front}

-- the text where the log is read, and where it is too long
pub listing_read : (log : List ℕ) → length log ≤ 65536 → log_lines log ≡ listing log
unfolding listing
listing_read log few = rw (le-leb (length log) 65536 few)

pub listing_long : (log : List ℕ) → 65536 < length log → letters "long\n" ≡ listing log
unfolding listing
listing_long log many = rw (lt-leb (length log) 65536 many)

-- the lines of records are those of the entries that they were written from
entries_lines : (log : List ℕ) (xs : List LogRecord) → flat_map (line_of log) xs ≡ flat_map entry_line (map (entry_in log) xs)
unfolding flat_map
entries_lines log [] = refl
entries_lines log (x ∷ xs) = ap (λ (l : List ℕ). line_of log x ++ l) (entries_lines log xs)

-- so of a log that reads so
reads_lines : (log : List ℕ) (l : Listed) (es : List Entry) → ReadsAs log (length log) l es (count_answer log (length log))
    → listing log ≡ if_read log (flat_map entry_line es ++ last_line l.last)
unfolding listing lines
reads_lines log l es reads =
    ap (if_read log)
    (ap (lines log) (sym ((whole_back log (length log)).only l reads.read.read))
    ∙ ap (λ (t : List ℕ). t ++ last_line l.last) (entries_lines log l.records ∙ ap (flat_map entry_line) reads.entries))

lists_written : (log : List ℕ) → ListsWritten log
lists_written log buffer es w front = reads_lines log _ es (reads_all log (length log) (counts_back log (length log) refl) buffer es w (take-length log ∙ front))

lists_torn : (log : List ℕ) → ListsTorn log
lists_torn log buffer es lost w front =
    reads_lines log (rest lost es) (whole_entries lost es) (reads_torn log (length log) (counts_back log (length log) refl) buffer es lost w (take-length log ∙ front))

-- what `list_log` answers and leaves
pub text_put : (log : List ℕ) {text before after : List ℕ} {n : ℕ} → text ≡ listing log → Put text before 0 after n
    → (n ≡ length (listing log)) × ((after ≡ at_front (listing log) before) × (IsPrefixLen n after × (ListsWritten log × ListsTorn log)))
text_put log {text} {before} {after} {n} same put =
    let front = put_front (subst (λ (l : List ℕ). Put l before 0 after n) same put) in
    (front.0, (front.1, (prefix_len_of_le n after (omega (arith, put.fits, ap length put.list, length-sets before 0 text)), (lists_written log, lists_torn log))))
