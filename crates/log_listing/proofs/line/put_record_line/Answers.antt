-- `log_listing::line::put_record_line` meets its contract: each text is put behind those before it.
-- Assumes nothing.
use mathlib.Core.Path.{◌∙◌}
use Rattle.text.proofs.Texts.{puts}
use Rattle.text.proofs.Texts.InTurn.{none, then}
use Rattle.log_record.specs.Kind.{kind_number}
use Rattle.log_listing.specs.Listing.{line, record_line}
use Rattle.log_listing.proofs.Records.{line_is}
use Rattle.log_listing.proofs.line.put_record_line.Goals as goal

pub returns : goal.returns
unfolding line
returns c =
    let kind = kind_number c.args.record.kind in
    let time = c.args.record.time in
    let payload = c.args.payload.now in
    puts (record_line kind time payload)
    (then (c.put-behind.ensures.value, c.put-behind.ensures.output)
    (then (c.put_field-behind.ensures.value, c.put_field-behind.ensures.output)
    (then (c.put_field-behind-2.ensures.value, c.put_field-behind-2.ensures.output)
    (then (c.put_field-behind-3.ensures.value, c.put_field-behind-3.ensures.output)
    (then (c.put_field-behind-4.ensures.value, c.put_field-behind-4.ensures.output)
    (then (c.put_time-behind.ensures.value, c.put_time-behind.ensures.output) (then (c.put.ensures.value, c.put.ensures.output) none)))))))
    (line_is kind time payload (c.from-2.ensures ∙ c.from.ensures) c.valid-valid.ensures c.from-3.ensures c.frames-frames.ensures)
    c.requires.1
