-- `bip_header::encode` meets its contract: the question, then four octets copied to the front.
-- Assumes nothing.
use mathlib.Core.Path.{◌≡◌, refl, ap, ◌∙◌}
use mathlib.Core.List.{List, [], ◌∷◌, ◌++◌}
use Prim.Native.Nat.{ℕ, ◌/◌, ◌%◌}
use native.Mathlib.Omega.{arith}
use lib.ListN.{get_or, drop}
use Rattle.octets.specs.Number.{high_first}
use Rattle.bip_header.proofs.Headers.{no_room, written}
use Rattle.bip_header.proofs.encode.Goals as goal

pub returns : goal.returns
returns c =
    let high : c.args.length / 256 % 256 ≡ c.args.length / 256 = omega (arith, c.ranges.length.fits) in
    let header : c.copy_from_slice.new.self ≡ 0x81 ∷ c.from.result ∷ high_first c.args.length
    = c.copy_from_slice.ensures.after
    ∙ ap (λ (l : List ℕ). 0x81 ∷ c.from.result ∷ get_or l 0 0 ∷ get_or l 1 0 ∷ []) c.to_be_bytes.ensures
    ∙ rw high in
    let all = written _ _ _ c.if-out-lt-BVLC_HEADER_SIZE.false c.from.ensures.0 refl (ap (λ (l : List ℕ). l ++ drop 4 c.args.out.now) header) in
    record { value = all.0; output = all.1.0; back = all.1.1 }

pub returns-then-out-lt-BVLC_HEADER_SIZE : goal.returns-then-out-lt-BVLC_HEADER_SIZE
returns-then-out-lt-BVLC_HEADER_SIZE c =
    let all = no_room _ _ _ c.if-out-lt-BVLC_HEADER_SIZE.true in
    record { value = all.0; output = all.1.0; back = all.1.1 }
