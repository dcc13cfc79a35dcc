-- Which messages the BACnet/IP validator calls valid, by the questions of reading a header.
-- Assumes nothing.
use Rattle.std.specs.Prelude.{◌≡◌, Bool, ◌&&◌, List, ℕ, leb, eqb, length}
use Rattle.octets.specs.Question.{Question, first_no, excusing}
use Rattle.bip_header.specs.Header.{header_questions, message_length}
use Rattle.validation_ip.specs.Tests.{function}

-- the questions of reading a header; 13 is excused for function 0D, which is refused there
unfoldable pub reading_questions : List ℕ → List Question
reading_questions s = excusing 13 (eqb (function s) 0x0D) (header_questions s)

-- valid are exactly the octets that pass them, as many as their length says, and at most 1497
abbrev pub ValidAsRead : List ℕ → Bool → Type 0
ValidAsRead s valid =
    valid ≡ (eqb (first_no (reading_questions s)) 0 && (eqb (message_length s) (length s) && leb (length s) 1497))
