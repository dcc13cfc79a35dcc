-- `patterns::detect_patterns` meets its contract: the questions, then the entries.
-- Assumes nothing.
use Prim.Native.Nat.{◌*◌, ◌≤◌}
use mathlib.Core.Path.{◌≡◌, sym, ◌∙◌}
use mathlib.Core.Bool.{true}
use native.Mathlib.Omega.{arith}
use lib.ListN.{length}
use Rattle.octets.specs.Size.{at_most_65535}
use Rattle.patterns.specs.Entries.{entries}
use Rattle.patterns.proofs.Texts.{entries_few}
use Rattle.patterns.proofs.Answers.{too_long, no_room, all_fit}
use Rattle.patterns.proofs.detect_patterns.Goals.{Else-not-at_most_65535, Joined-else-out-frame, else-out-frame-via-else-out-frame, else-out-frame-via-then-out-frame+else-out-put}
use Rattle.patterns.proofs.detect_patterns.Goals as goal

pub returns-then-not-at_most_65535 : goal.returns-then-not-at_most_65535
returns-then-not-at_most_65535 c =
    let all = too_long _ _ (sym c.at_most_65535.ensures ∙ c.if-not-at_most_65535.true) in
    record { value = all.value; output = all.output; padding = all.padding; texts = all.texts }

-- few enough octets
few : (c : goal.Else-not-at_most_65535) → at_most_65535 (length c.args.frame.now) ≡ true
few c = sym c.at_most_65535.ensures ∙ c.if-not-at_most_65535.false

pub returns-then-out-put : goal.returns-then-out-put
returns-then-out-put c =
    let put = rw (c.new-seen.ensures, c.new.ensures) at c.put.ensures in
    let all = no_room _ _ (few (goal.at.returns-then-out-put c).Else-not-at_most_65535) (omega (arith, put.count)) in
    record { value = all.value; output = all.output; padding = all.padding; texts = all.texts }

-- all fit: they were counted, or no frame of this size has more
room : (c : goal.Joined-else-out-frame)
    → let a = c.args in
    4 * length (entries a.frame.now) ≤ length a.out.now
room c =
    let s = c.args.frame.now in
    elim c.else-out-frame.branch [
      | else-out-frame-via-then-out-frame+else-out-put w ↦ let put = rw (c.new-seen.ensures, c.new.ensures) at w.put.ensures in omega (arith, put.count)
      | else-out-frame-via-else-out-frame w ↦ omega (arith, entries_few s)
    ]

pub returns : goal.returns
returns c =
    let all = all_fit _ _ (few (goal.at.returns c).Else-not-at_most_65535) (room (goal.at.returns c).Joined-else-out-frame) (rw (c.new-seen.ensures, c.new.ensures) at c.put-2.ensures) in
    record { value = all.value; output = all.output; padding = all.padding; texts = all.texts }
