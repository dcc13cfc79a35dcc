-- Demand 3 of every run: the reading ends, its late reports are the frames, and each report passes every check.
-- Assumes nothing.
use mathlib.Core.Path.{refl, subst}
use mathlib.Core.List.{List, map, flatten, ◌++◌}
use Prim.Native.Nat.{ℕ}
use native.Mathlib.Omega.{arith}
use borrow.Author.Tests.{leb-true}
use lib.ListN.{length, drop, length-drop}
use lib.Seq.{length-take-le}
use Rattle.octets.proofs.Parts.{Octets, octets_take, octets_drop, octets_behind}
use Rattle.crc.specs.declared.CheckRule.{CheckRule}
use Rattle.run_search.specs.declared.Report.{Report}
use Rattle.run_search.specs.Found.{octets_of}
use Rattle.run_finder.proofs.Finds.{found_plain}
use Rattle.run_finder.specs.Reading.{CallsGive, end, next, reading}
use Rattle.run_finder.specs.Demand.{Each, frame_of, ReportPasses, Demand3}
use Rattle.run_finder.proofs.Frames.{all_stand}
use Rattle.run_finder.proofs.Pass.{rest_reading, whole_reading}
use Rattle.run_finder.proofs.Late.{all_late}
use Rattle.run_finder.proofs.Anew.{passes}

module _ (rule : CheckRule) (run : List ℕ) (octets : Octets run) where
  -- each report of a reading passes
  each_passes : {place : ℕ} {rs : List Report} → CallsGive rule run place rs → Each (ReportPasses rule run) rs
  each_passes (end e) = tt
  each_passes {place} (next {r = r} e on) =
      let found = (found_plain rule run octets place e).reported r refl in
      let behind = drop r.place run in
      let there = length-take-le r.count behind (omega (arith, found.inside, length-drop r.place run)) in
      let octets-of = octets_take r.count behind (octets_drop r.place run octets) in
      ((there, passes rule (octets_of run r) octets-of found.passes), each_passes on)

  -- demand 3 of the reports of the run
  pub demand_3 : Demand3 rule run (reading rule run)
  demand_3 damage sent filled =
      let fits = leb-true (length run) 65535 filled.fits in
      let whole = whole_reading rule run fits octets in
      let frames = map (frame_of rule) sent in
      let all : Octets (damage ++ flatten frames) = subst Octets filled.whole octets in
      let stand = all_stand rule sent filled.sendable (octets_behind damage (flatten frames) all) in
      record {
        read = whole;
        late = rw (rest_reading rule run fits octets, filled.whole)
            (all_late rule frames stand filled.once (length damage) _ (omega arith) damage 0 0 (λ some. omega arith) (omega arith) all);
        pass = each_passes whole.read;
      }
