-- `ethernet_decode::form_length` meets its contract: each test is a question of the form, asked in their order.
-- Assumes nothing.
use mathlib.Core.Path.{◌≡◌, ◌∙◌}
use native.Mathlib.Omega.{arith}
use Rattle.ethernet_decode.specs.Decode.{field_of}
use Rattle.ethernet_decode.proofs.Questions.{fails_22, passes_22, fails_24, fails_61, fails_62, passes_length}
use Rattle.ethernet_decode.proofs.form_length.Goals.{After-from_be_bytes-field, After-from-counted}
use Rattle.ethernet_decode.proofs.form_length.Goals as goal

-- the number read is the field
read : (c : goal.After-from_be_bytes-field) → c.from_be_bytes-field.result ≡ field_of c.args.frame.now
unfolding field_of
read c = c.from_be_bytes-field.ensures

counts : (c : goal.After-from-counted) → c.from-counted.result ≡ field_of c.args.frame.now
unfolding field_of
counts c = c.from-counted.ensures ∙ c.from_be_bytes-field.ensures

pub returns-then-field : goal.returns-then-field
returns-then-field c = fails_22 _ (read (goal.at.returns-then-field c).After-from_be_bytes-field) c.in-EtherType.is c.if-field.true

pub returns-else-field : goal.returns-else-field
returns-else-field c = passes_22 _ (read (goal.at.returns-else-field c).After-from_be_bytes-field) c.in-EtherType.is c.if-field.false

pub returns-then-size-gt-MAX_ETHERNET_FRAME_SIZE : goal.returns-then-size-gt-MAX_ETHERNET_FRAME_SIZE
returns-then-size-gt-MAX_ETHERNET_FRAME_SIZE c =
    fails_24 _ (counts (goal.at.returns-then-size-gt-MAX_ETHERNET_FRAME_SIZE c).After-from-counted) c.in-Length.is
    (omega (arith, c.if-size-gt-MAX_ETHERNET_FRAME_SIZE.true))

pub returns-then-counted-lt-LLC_HEADER_SIZE : goal.returns-then-counted-lt-LLC_HEADER_SIZE
returns-then-counted-lt-LLC_HEADER_SIZE c =
    fails_61 _ (counts (goal.at.returns-then-counted-lt-LLC_HEADER_SIZE c).After-from-counted) c.in-Length.is
    (omega (arith, c.if-size-gt-MAX_ETHERNET_FRAME_SIZE.false)) c.then-counted-lt-LLC_HEADER_SIZE.either

pub returns-then-size-counted : goal.returns-then-size-counted
returns-then-size-counted c =
    fails_62 _ (counts (goal.at.returns-then-size-counted c).After-from-counted) c.in-Length.is (omega (arith, c.if-size-gt-MAX_ETHERNET_FRAME_SIZE.false))
    (omega (arith, c.if-counted-lt-LLC_HEADER_SIZE.false)) (omega (arith, c.if-counted-gt-MAX_LENGTH.false)) (omega (arith, c.if-size-counted.true))

pub returns-else-size-counted : goal.returns-else-size-counted
returns-else-size-counted c =
    passes_length _ (counts (goal.at.returns-else-size-counted c).After-from-counted) c.in-Length.is (omega (arith, c.if-size-gt-MAX_ETHERNET_FRAME_SIZE.false))
    (omega (arith, c.if-counted-lt-LLC_HEADER_SIZE.false)) (omega (arith, c.if-counted-gt-MAX_LENGTH.false)) (omega (arith, c.if-size-counted.false))
