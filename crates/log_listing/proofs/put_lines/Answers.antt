-- `log_listing::put_lines` meets its contract: the lines put so far and those from the next end on are all lines.
-- Assumes nothing.
use mathlib.Core.Path.{◌≡◌, refl, sym, ap, subst, ◌∙◌}
use mathlib.Core.List.{List}
use Prim.Native.Nat.{ℕ, ◌+◌, ◌≤◌}
use native.Mathlib.Omega.{arith}
use lib.ListN.{length}
use Rattle.std.specs.Prelude.{Some, Ok, Err}
use Rattle.octets.specs.Put.{Put}
use Rattle.octets.proofs.Puts.{putting_start, put_call, put_size}
use Rattle.log_record.specs.Kind.{kind_number}
use Rattle.log_record.specs.Read.{read_record}
use Rattle.log_reading.proofs.Back.{record_next, refusal_next, none_next}
use Rattle.log_listing.specs.Listing.{record_line}
use Rattle.log_listing.proofs.Lines.{Going, payload_most, line_room, line_put, last_room, last_put}
use Rattle.log_listing.proofs.put_lines.Goals.{In-Ok, In-Err}
use Rattle.log_listing.proofs.put_lines.Goals as goal

-- the record that was read
found : (c : In-Ok)
    → (read_record c.args.log.now c.loop-record.record-iterator.end ≡ Ok (Some c.in-Ok.record)) × (c.next.new.self.end ≡ c.in-Ok.record.start)
found c = record_next _ _ c.loop-record.invariant.2 c.next.ensures.steps.1 (c.in-Some.is ∙ ap Some c.in-Ok.is)

pub loop-record-init : goal.loop-record-init
loop-record-init c =
    let made = c.into_iter-record-iterator.ensures.into_iter_gives in
    let items = c.records_back-record-items.ensures in
    rw made (tt, tt, items.from, rw items.end (putting_start _ _ 0 (omega arith)))

pub put_record_line-at-requires : goal.put_record_line-at-requires
put_record_line-at-requires c =
    let r = found (goal.at.put_record_line-at-requires c).In-Ok in
    subst (λ (payload : List ℕ). (length payload ≤ 1514) × (c.loop-record.at + length (record_line (kind_number c.in-Ok.record.kind) c.in-Ok.record.time payload) ≤ length c.loop-record.out))
    (sym c.payload_in-payload.ensures) (payload_most _ _ r.0, line_room _ _ c.requires _ c.loop-record.invariant.3 r.0)

pub loop-record-preserved : goal.loop-record-preserved
loop-record-preserved c =
    let r = found (goal.at.loop-record-preserved c).In-Ok in
    let call = c.put_record_line-at in (
      tt,
      tt,
      c.next.ensures.steps.0 ∙ c.loop-record.invariant.2,
      subst (λ (end : ℕ). Going c.args.log.now c.args.out.now call.new.out end call.result) (sym r.1)
          (line_put _ _ c.requires _ c.loop-record.invariant.3 r.0
          (subst (λ (payload : List ℕ). Put (record_line (kind_number c.in-Ok.record.kind) c.in-Ok.record.time payload) c.loop-record.out c.loop-record.at call.new.out call.result)
          c.payload_in-payload.ensures call.ensures)),
    )

-- the question that failed
stopped : (c : In-Err) → read_record c.args.log.now c.loop-record.record-iterator.end ≡ Err c.in-Err.refusal
stopped c = refusal_next _ _ c.loop-record.invariant.2 c.next.ensures.steps.1 (c.in-Some.is ∙ ap Some c.in-Err.is)

pub put_stopped-requires : goal.put_stopped-requires
put_stopped-requires c = last_room _ _ c.requires _ c.loop-record.invariant.3 (stopped (goal.at.put_stopped-requires c).In-Err) refl

pub returns-in-Err : goal.returns-in-Err
returns-in-Err c =
    last_put _ _ c.requires _ c.loop-record.invariant.3 (stopped (goal.at.returns-in-Err c).In-Err) refl c.put_stopped.ensures

pub returns : goal.returns
returns c =
    let start = none_next _ _ c.loop-record.invariant.2 c.next.ensures.steps.1 c.in-None.is in
    last_put _ _ c.requires _ c.loop-record.invariant.3 start refl
    (put_call _ _ _ (last_room _ _ c.requires _ c.loop-record.invariant.3 start refl) c.put.ensures.value c.put.ensures.output)
