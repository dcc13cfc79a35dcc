-- What is told of an answer to a caller in another language, beside its number: lent memory holds the result, or what it held
-- before.
-- Assumes nothing.
use Rattle.std.specs.Prelude.{ℕ, List, Option, Some, None, Result, Ok, Err}
use Rattle.octets.specs.Answer.{made_of}
use Rattle.octets.specs.Refusal.{refusal_number}
use Rattle.octets.specs.declared.refusal.Refusal.{Refusal}
use Rattle.bip_message.specs.declared.BvlcMessage.{BvlcMessage}
use Rattle.bip_message.specs.declared.BvlcMessage.TheVariants.{Npdu, TimeToLive, NoNpdu}
use Rattle.ethernet_decode.specs.declared.EthernetHeader.{EthernetHeader}
use Rattle.statistics.specs.declared.FrameStatistics.{FrameStatistics}
use Rattle.analysis.specs.declared.FrameAnalysis.{FrameAnalysis}
use Rattle.numbers.specs.Layout.{count_numbers}
use Rattle.result_numbers.specs.Layout.{result_numbers}
use Rattle.answers.specs.Parts.{npdu_numbers, time_to_live_numbers, no_npdu_numbers, payload_numbers}

-- "none", and "start reached"
abbrev pub none : ℕ
none = 0xFE

-- a number that names no rule, type, function, form or state
abbrev pub no_case : ℕ
no_case = 0xFF

module _ {A : Type 0} where
  -- the number of an answer that may be "none"
  abbrev pub found_number : Result (Option A) Refusal → ℕ
  found_number (Ok (Some value)) = 0
  found_number (Ok None) = none
  found_number (Err refusal) = refusal_number refusal

  -- what is made of the value that was found; where none was, what stood there before
  abbrev pub made_of_found : {B : Type 0} → (A → B) → B → Result (Option A) Refusal → B
  made_of_found make before (Ok (Some value)) = make value
  made_of_found make before (Ok None) = before
  made_of_found make before (Err refusal) = before

-- a count; where there is none, what stood there before
abbrev pub count_or : ℕ → Result ℕ Refusal → ℕ
count_or = made_of (λ n. n)

-- what a BVLC message of a size carries
abbrev pub carried_numbers : ℕ → BvlcMessage → List ℕ
carried_numbers size (Npdu start) = npdu_numbers start size
carried_numbers size (TimeToLive n) = time_to_live_numbers n
carried_numbers size NoNpdu = no_npdu_numbers

-- what reading an Ethernet frame answers: both addresses, and its payload
abbrev pub decoded_destination : List ℕ → Result EthernetHeader Refusal → List ℕ
decoded_destination = made_of (λ (h : EthernetHeader). h.dest_mac)

abbrev pub decoded_source : List ℕ → Result EthernetHeader Refusal → List ℕ
decoded_source = made_of (λ (h : EthernetHeader). h.src_mac)

abbrev pub decoded_payload : List ℕ → Result EthernetHeader Refusal → List ℕ
decoded_payload = made_of (λ (h : EthernetHeader). payload_numbers h.payload_length)

-- what the statistics answer: the distribution, and the other numbers
abbrev pub statistics_distribution : List ℕ → Result FrameStatistics Refusal → List ℕ
statistics_distribution = made_of (λ (t : FrameStatistics). t.byte_distribution)

abbrev pub statistics_counts : List ℕ → Result FrameStatistics Refusal → List ℕ
statistics_counts = made_of count_numbers

-- what the analysis answers: the count of the patterns, the validation, and the statistics
abbrev pub analysis_count : ℕ → Result FrameAnalysis Refusal → ℕ
analysis_count = made_of (λ (a : FrameAnalysis). a.patterns)

abbrev pub analysis_result : List ℕ → Result FrameAnalysis Refusal → List ℕ
analysis_result = made_of (λ (a : FrameAnalysis). result_numbers a.validation)

abbrev pub analysis_distribution : List ℕ → Result FrameAnalysis Refusal → List ℕ
analysis_distribution = made_of (λ (a : FrameAnalysis). a.statistics.byte_distribution)

abbrev pub analysis_counts : List ℕ → Result FrameAnalysis Refusal → List ℕ
analysis_counts = made_of (λ (a : FrameAnalysis). count_numbers a.statistics)
