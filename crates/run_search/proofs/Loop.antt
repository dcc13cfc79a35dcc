-- The loop over the reports of a run: those counted so far, and those from the place behind them on, are all of them; of their
-- numbers, what is stored and what is left is all that fits.
-- Assumes nothing.
use mathlib.Core.Path.{◌≡◌, refl, sym, ap, ◌∙◌}
use mathlib.Core.List.{List, [], ◌∷◌, flat_map}
use Prim.Native.Nat.{ℕ, suc, ◌+◌, ◌*◌, ◌-◌, ◌≤◌, ◌<◌}
use native.Mathlib.Nat.{sub-zero}
use native.Mathlib.Numerals.{add-one}
use native.Mathlib.Omega.{arith}
use lib.ListN.{length, take, set}
use lib.Seq.{take-nil}
use Rattle.octets.specs.Output.{at_front}
use Rattle.octets.proofs.Parts.{Octets}
use Rattle.octets.proofs.Puts.{put_size, put_front, Putting, putting_start, putting_next, putting_end}
use Rattle.crc.specs.declared.CheckRule.{CheckRule}
use Rattle.run_search.specs.declared.Report.{Report}
use Rattle.std.specs.Prelude.{Some}
use Rattle.run_search.specs.Reports.{rest, list_numbers}
use Rattle.run_search.specs.Search.{report, search_from, size_at, next_frame}
use Rattle.run_search.proofs.Next.{Next, next}
use Rattle.run_search.proofs.Pass.{rest_search, search_onward, few_rest}

-- the numbers of the first k reports
abbrev pub firsts : ℕ → List Report → List ℕ
firsts k rs = list_numbers (take k rs)

-- n reports are counted, and p is the next frame's place, or the end; the list, with room for k reports, was `before`
pub record Past (rule : CheckRule) (run before : List ℕ) (k n p : ℕ) (out : List ℕ) : Type 0 where
  pub fits : length run ≤ 65535
  pub octets : Octets run
  -- behind the last report
  pub place : ℕ
  pub inside : place ≤ length run
  pub here : p ≡ next_frame rule run place
  pub all : n + length (rest rule run place) ≡ length (rest rule run 0)
  -- in the list
  pub at : ℕ
  pub stored : Putting (firsts k (rest rule run 0)) before 0 (firsts (k - n) (rest rule run place)) out at
  pub next : n ≤ k → at ≡ 2 * n

-- no report before the first call
pub past_start : {rule : CheckRule} {run before : List ℕ} {k p : ℕ} → length run ≤ 65535 → Octets run → p ≡ next_frame rule run 0
    → Past rule run before k 0 p before
past_start {rule} {run} {before} {k} fits octets first = record {
  fits = fits;
  octets = octets;
  place = 0;
  inside = omega arith;
  here = first;
  all = omega arith;
  at = 0;
  stored = rw sub-zero (putting_start (firsts k (rest rule run 0)) before 0 (omega arith));
  next = λ _. refl;
}

module _ {rule : CheckRule} {run before : List ℕ} {k n p : ℕ} {out : List ℕ} (past : Past rule run before k n p out) where
  means : Next rule run past.place p
  means = next rule run past.octets past.place past.here

  -- the list is as long as it was
  pub same : length out ≡ length before
  same = put_size past.stored.put

  -- where p is a frame's place, the reports are this one and those from its end on
  module _ (frame : p < length run) {size : ℕ} (sized : size ≡ size_at run p) where
    found : (search_from rule run past.place).found ≡ Some (report p size)
    found = means.frame frame ∙ ap (λ (i : ℕ). Some (report p i)) (sym sized)

    goes : (past.place ≤ p) × (8 ≤ size) × (p + size ≤ length run)
    goes = search_onward rule run past.octets past.place (report p size) found

    rest_report : rest rule run past.place ≡ report p size ∷ rest rule run (p + size)
    rest_report = rest_search rule run past.place ∙ rw found

    -- the frame ends within the run, and it is one more than were counted
    pub on : (p + size ≤ 65535) × (n < 65535)
    on = (
      omega (arith, past.fits, goes.2),
      omega (arith, past.fits, past.all, ap length rest_report, few_rest rule run past.octets),
    )

    module _ {p' : ℕ} (then : p' ≡ next_frame rule run (p + size)) where
      pub behind : p < p'
      behind = omega (arith, (next rule run past.octets (p + size) then).later goes.2, goes.1)

      -- the next turn, with the list that this one leaves
      past_next : {later : List ℕ} (at : ℕ) → Putting (firsts k (rest rule run 0)) before 0 (firsts (k - (n + 1)) (rest rule run (p + size))) later at
          → (n + 1 ≤ k → at ≡ 2 * (n + 1)) → Past rule run before k (n + 1) p' later
      past_next at stored there = record {
        fits = past.fits;
        octets = past.octets;
        place = p + size;
        inside = goes.2;
        here = then;
        all = omega (arith, past.all, ap length rest_report);
        at = at;
        stored = stored;
        next = there;
      }

      -- its numbers are stored where there is room
      pub past_stored : {later : List ℕ} → n < k → 2 * k ≤ length before → later ≡ set (set out (2 * n) p) (2 * n + 1) size
          → Past rule run before k (n + 1) p' later
      unfolding list_numbers flat_map
      past_stored more room set_there =
          let left : k - n ≡ suc (k - (n + 1)) = omega arith in
          let others = firsts (k - (n + 1)) (rest rule run (p + size)) in
          let now : Putting (firsts k (rest rule run 0)) before 0 (p ∷ size ∷ others) out (2 * n)
          = rw (past.next (omega arith), rest_report, left) at past.stored in
          past_next (2 * n + 2)
          (putting_next (p ∷ size ∷ []) others now (record { place = refl; fits = omega (arith, same); list = set_there ∙ rw (add-one (2 * n)) }))
          (λ _. omega arith)

      -- and the list stays where there is none
      pub past_full : {later : List ℕ} → k ≤ n → later ≡ out → Past rule run before k (n + 1) p' later
      past_full full stays =
          let none : k - n ≡ 0 = omega arith in
          let still : k - (n + 1) ≡ 0 = omega arith in
          past_next past.at (rw (still, stays) (rw none at past.stored)) (λ fits. absurd (omega arith))

  -- where it is the end, they are none
  pub past_all : length run ≤ p → (n ≡ length (rest rule run 0)) × (out ≡ at_front (firsts k (rest rule run 0)) before)
  unfolding list_numbers flat_map
  past_all end =
      let rest-none : rest rule run past.place ≡ [] = rest_search rule run past.place ∙ rw (means.none end) in
      (omega (arith, past.all, ap length rest-none), (put_front (putting_end (rw (rest-none, take-nil) at past.stored))).1)
