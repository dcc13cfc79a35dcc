-- What the private functions answer, and leave in the lent list.
-- Assumes nothing.
use Rattle.std.specs.Prelude.{ℕ, ◌+◌, ◌*◌, ◌≤◌, ◌<◌, ◌≡◌, false, List, length, get_or, drop}
use Rattle.octets.specs.Put.{Put}
use Rattle.runs.specs.Front.{front}
use Rattle.patterns.specs.Entries.{printable, entry_numbers}
use Rattle.patterns.specs.declared.pattern.Pattern.{Pattern}

-- n octets from place i on are all octets of a text, or fewer than 4; the octet behind them, if there is one, is in no text
pub record Passed (s : List ℕ) (i n : ℕ) : Type 0 where
  pub inside : i + n ≤ length s
  pub whole : 4 ≤ n → n ≡ front printable (drop i s)
  pub ends : i + n < length s → printable (get_or s (i + n) 0) ≡ false

-- entries behind the first `at` of a list: how many there are with them, and the list afterwards, if all fit
pub record PutEntries (es : List Pattern) (before : List ℕ) (at : ℕ) (after : List ℕ) (behind : ℕ) : Type 0 where
  pub count : behind ≡ at + length es
  pub put : 4 * behind ≤ length before → Put (entry_numbers es) before (4 * at) after (4 * behind)
