-- `log_listing::list_log` meets its contract: the lines, or `long`, are put in front.
-- Assumes nothing.
use native.Mathlib.Omega.{arith}
use Rattle.octets.proofs.Puts.{put_call}
use Rattle.text.specs.Text.{letters}
use Rattle.log_listing.proofs.Lines.{lines_most}
use Rattle.log_listing.proofs.Listings.{listing_read, listing_long, text_put}
use Rattle.log_listing.proofs.list_log.Goals as goal

pub returns-then-log-gt-MAX_LOG : goal.returns-then-log-gt-MAX_LOG
returns-then-log-gt-MAX_LOG c =
    let all = text_put _ (listing_long c.args.log.now (omega arith))
    (put_call (letters "long\n") _ 0 (omega arith) c.put.ensures.value c.put.ensures.output) in
    record { value = all.0; output = all.1.0; fits = all.1.1.0; written = all.1.1.1.0; torn = all.1.1.1.1 }

pub put_lines-requires : goal.put_lines-requires
put_lines-requires c = omega (arith, lines_most c.args.log.now (λ i. (c.type_inv.log i).fits))

pub returns : goal.returns
returns c =
    let all = text_put _ (listing_read c.args.log.now (omega arith)) c.put_lines.ensures in
    record { value = all.0; output = all.1.0; fits = all.1.1.0; written = all.1.1.1.0; torn = all.1.1.1.1 }
