-- The Rust's error for each question.
-- Assumes nothing.
use Rattle.std.specs.Prelude.{ℕ, Bool, cond, ◌||◌, Option, Some, None, eqb}
use Rattle.octets.specs.Range.{within}
use Rattle.datalink.specs.declared.DataLinkError.{DataLinkError}
use Rattle.datalink.specs.declared.DataLinkError.TheVariants.{InvalidFrame, CrcError}

-- the questions that the Rust asks too: 1 to 7 of MS/TP, 11 to 15 of BVLC messages, 21 to 24 of Ethernet; so not 61 and 62
abbrev pub rust_asks : ℕ → Bool
rust_asks q = within 1 7 q || (within 11 15 q || within 21 24 q)

-- to them it answers CrcError for 4 and 6, and InvalidFrame for the others
abbrev pub error_of : ℕ → Option DataLinkError
error_of q = cond (rust_asks q) (Some (cond (eqb q 4 || eqb q 6) CrcError InvalidFrame)) None
