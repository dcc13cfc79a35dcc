-- What a step of the reader is: the finder's answer from its place, and the place to go on from.
-- Assumes nothing.
use Rattle.std.specs.Prelude.{◌≡◌, ℕ, List, [], ◌∷◌, ◌++◌, Option, Some, None, Result, Ok, Err}
use Rattle.octets.specs.declared.refusal.Refusal.{Refusal}
use Rattle.crc.specs.declared.CheckRule.{CheckRule}
use Rattle.run_search.specs.declared.Report.{Report}
use Rattle.run_search.specs.Search.{end_of}
use Rattle.run_finder.specs.Find.{find}
use Rattle.run_finder.specs.Calls.{Called, Calls}
use Rattle.run_reader.specs.declared.Step.{Step}
use Rattle.run_reader.specs.declared.FrameReader.{FrameReader}

-- the place to go on from: behind a frame, and else the place itself
abbrev pub after : Result (Option Report) Refusal → ℕ → ℕ
after (Ok (Some r)) place = end_of r
after (Ok None) place = place
after (Err refusal) place = place

-- a step from a place: what the finder answers there, and the place to go on from
unfoldable pub step_of : CheckRule → List ℕ → ℕ → Step
step_of rule run place = record { found = find rule run place; next = after (find rule run place) place }

-- the reader behind a step: the same run, and the place to go on from
unfoldable pub moved_on : CheckRule → FrameReader → FrameReader
moved_on rule r = record { run = r.run; place = (step_of rule r.run.now r.place).next }

-- a reader that is left as it was where the answer is "none" or a refusal
pub record Stays (answer : Result (Option Report) Refusal) (before behind : FrameReader) : Type 0 where
  pub none : answer ≡ Ok None → behind ≡ before
  pub refused : (refusal : Refusal) → answer ≡ Err refusal → behind ≡ before

-- what an answer means to whoever calls `next` under one rule, from `new` on until "none": what it means to a caller of the finder, and behind a
-- report the reader is where such calls go on
pub record Reads (rule : CheckRule) (answer : Result (Option Report) Refusal) (before behind : FrameReader) : Type 0 where
  pub calls : Calls rule before.run.now before.place answer
  pub goes : (rs : List Report) (r : Report) → Called rule before.run.now rs before.place → answer ≡ Ok (Some r)
      → Called rule behind.run.now (rs ++ r ∷ []) behind.place
