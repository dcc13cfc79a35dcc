-- `ethernet_encode::write_header` meets its contract: four parts, one behind another.
-- Assumes nothing.
use mathlib.Core.Path.{◌≡◌, refl, ap, ◌∙◌}
use mathlib.Core.List.{List, [], ◌∷◌, ◌++◌, append_assoc}
use Prim.Native.Nat.{ℕ, ◌/◌, ◌%◌}
use native.Mathlib.Omega.{arith}
use lib.ListN.{length, drop, length-append}
use Rattle.octets.specs.Number.{high_first}
use Rattle.octets.specs.Output.{at_front}
use Rattle.ethernet_decode.specs.Frame.{llc_header}
use Rattle.ethernet_encode.proofs.Outputs.{front_mid}
use Rattle.ethernet_encode.proofs.write_header.Goals as goal

pub returns : goal.returns
unfolding at_front
returns c =
    let d = c.args.dest_mac in
    let e = c.args.src_mac in
    let out = c.args.out.now in
    let six : length d ≡ 6 = omega (arith, c.well_formed) in
    let others : length e ≡ 6 = omega (arith, c.well_formed) in
    let high : c.args.field / 256 % 256 ≡ c.args.field / 256 = omega (arith, c.ranges.field.fits) in
    let field : c.copy_from_slice-3.new.self ≡ high_first c.args.field
    = c.copy_from_slice-3.ensures.after ∙ c.to_be_bytes.ensures ∙ ap (λ (h : ℕ). h ∷ c.args.field % 256 ∷ []) high in
    let first : c.copy_from_slice.new.self ++ drop 6 out ≡ at_front d out
    = rw (c.copy_from_slice.ensures.after, six) in
    let second = front_mid d e out 6 6 first six others c.copy_from_slice-2.ensures.after in
    let third = front_mid (d ++ e) (high_first c.args.field) out 12 2 second (omega (arith, length-append d e)) refl field in
    front_mid ((d ++ e) ++ high_first c.args.field) llc_header out 14 3 third (omega (arith, length-append (d ++ e) (high_first c.args.field), length-append d e)) refl
    c.copy_from_slice-4.ensures.after
    ∙ ap (λ (l : List ℕ). at_front l out) (append_assoc (d ++ e) (high_first c.args.field) llc_header ∙ append_assoc d e (high_first c.args.field ++ llc_header))
