-- The examples of demand 3: what is found in them is what demand 3 says of every such run, and the false frame is computed.
-- Assumes nothing.
use mathlib.Core.Path.{◌≡◌, refl, sym, ap, ◌∙◌}
use mathlib.Core.List.{List, [], ◌∷◌, ◌++◌, flatten}
use Prim.Native.Nat.{ℕ, ◌+◌, ◌≤◌}
use native.Mathlib.Omega.{arith}
use borrow.Author.Tests.{le-leb}
use lib.ListN.{length, replicate, length-append, length-replicate}
use Rattle.octets.specs.Question.{first_no, answered}
use Rattle.octets.specs.Range.{within}
use Rattle.octets.proofs.Parts.{Octets, all_octets_lem, octets_repeat}
use Rattle.crc_tables.specs.Steps.{xor_if, step, steps}
use Rattle.crc.specs.Check.{octet_step, register, check}
use Rattle.crc.specs.Rule.{header_check, data_check}
use Rattle.crc.specs.declared.CheckRule.{CheckRule}
use Rattle.crc.specs.declared.CheckRule.TheVariants.{AnnexG}
use Rattle.mstp_frame.specs.Size.{frame_size}
use Rattle.mstp_decode.specs.Frame.{encode_frame}
use Rattle.mstp_frame.specs.Fields.{data_length, data_part, data_check_sent}
use Rattle.findings.specs.Result.{found, errors_of}
use Rattle.validation_mstp.specs.Tests.{data_check_there, data_check_test, error_tests, mstp_errors}
use Rattle.run_search.specs.Acceptable.{acceptable, own_octets}
use Rattle.run_search.specs.declared.Report.{Report}
use Rattle.run_search.specs.Search.{report, search}
use Rattle.run_finder.specs.Find.{find_questions, find}
use Rattle.run_finder.specs.Reading.{within_calls, reading}
use Rattle.run_finder.specs.Demand.{Sent, frame_of, placed, starting_from, starting_late}
use Rattle.run_finder.proofs.Filled.{fills, framed, Computed, octets, filled, size, most, fewer, overlaps}
use Rattle.run_finder.specs.Example.{token, heard, Late, Edges, false_head, overlapped, sent, FalseFrame, Example}
use Rattle.run_finder.proofs.Demand.{demand_3}

-- what is found behind some damage
module _ (rule : CheckRule) {x : Sent} (e : Computed rule x) (damage : List ℕ) (known : Octets damage) where
  abbrev run : List ℕ
  run = heard rule damage (x ∷ token ∷ [])

  abbrev frames : List (List ℕ)
  frames = framed x e.h e.c ∷ frame_of rule token ∷ []

  late : {d : ℕ} {rs : List Report} → length damage ≡ d → d + length (flatten frames) ≤ 65535 → starting_late d (placed d frames) ≡ rs
      → Late rule damage (x ∷ token ∷ []) rs
  late sized fits starts =
      let all = filled rule e damage known (le-leb (length (damage ++ flatten frames)) 65535 (omega (arith, length-append damage (flatten frames)))) in
      record { octets = octets rule e damage known; filled = all; late = (demand_3 rule run (octets rule e damage known) damage (x ∷ token ∷ []) all).late ∙ rw (e.written, sized) starts }

edges : (rule : CheckRule) → Edges rule
unfolding framed encode_frame starting_from flatten
edges rule =
    let zeros = length-replicate {A = ℕ} 65017 0 in
    record {
      undamaged = late rule (most rule) [] (λ i. omega arith) refl (omega arith) refl;
      longest = late rule (fewer rule) (replicate 65017 0) (octets_repeat 65017 0 (omega arith)) zeros (omega arith) refl;
      size = size rule (fewer rule) (replicate 65017 0) (octets_repeat 65017 0 (omega arith)) zeros refl;
    }

literal : reading AnnexG (false_head ++ framed overlapped 0x9C 0x9C6C ++ frame_of AnnexG token ++ []) ≡ report 0 511 ∷ []
unfolding framed header_check data_check check register octet_step steps step xor_if encode_frame frame_size data_length data_part data_check_sent found errors_of data_check_there data_check_test error_tests mstp_errors within first_no answered acceptable own_octets search find_questions find within_calls reading
literal = refl

false_frame_lem : FalseFrame
unfolding flatten starting_from encode_frame overlaps
false_frame_lem = record {
  covered = late AnnexG overlaps false_head (all_octets_lem false_head refl) refl (omega arith) refl;
  read = read;
  too_few = λ e. let z : ◌≡◌ {A = ℕ} 0 1 = ap length (sym (ap (starting_from 510) read) ∙ e) in omega arith;
}
  where
    read : reading AnnexG (heard AnnexG false_head sent) ≡ report 0 511 ∷ []
    read = ap (λ (f : List ℕ). reading AnnexG (false_head ++ f ++ frame_of AnnexG token ++ [])) overlaps.written ∙ literal

pub example : Example
example = record { fills = fills; edges = edges; false_frame = false_frame_lem }
