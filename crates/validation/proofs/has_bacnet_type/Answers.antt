-- `validation::has_bacnet_type` meets its contract: the two octets are asked, if they are there.
-- Assumes nothing.
use borrow.Author.Tests.{lt-leb}
use Rattle.ethernet_decode.specs.Decode.{field_of}
use Rattle.validation.proofs.Links.{no_type}
use Rattle.validation.proofs.has_bacnet_type.Goals as goal

pub returns-then-frame-ge-ETHERNET_HEADER_SIZE : goal.returns-then-frame-ge-ETHERNET_HEADER_SIZE
unfolding field_of
returns-then-frame-ge-ETHERNET_HEADER_SIZE c = rw c.from_be_bytes.ensures

pub returns-else-frame-ge-ETHERNET_HEADER_SIZE : goal.returns-else-frame-ge-ETHERNET_HEADER_SIZE
returns-else-frame-ge-ETHERNET_HEADER_SIZE c =
    let h = c.if-frame-ge-ETHERNET_HEADER_SIZE.false in rw (lt-leb 14 _ h) (no_type _ h)
