-- The trials hold: each is computed.
-- Assumes nothing.
use mathlib.Core.Path.{refl}
use mathlib.Core.List.{flat_map}
use Rattle.octets.specs.Question.{first_no, answered}
use Rattle.octets.specs.Output.{at_front, write_answer, write_output}
use Rattle.octets.specs.Range.{within}
use Rattle.crc_tables.specs.Steps.{xor_if, step, steps}
use Rattle.crc.specs.Check.{octet_step, register, check}
use Rattle.crc.specs.Rule.{header_check, data_check}
use Rattle.mstp_decode.specs.Frame.{encode_frame}
use Rattle.mstp_encode.specs.Encode.{encode_questions, encode_question, encode_answer, encode_output}
use Rattle.bip_header.specs.Header.{header_questions, header_question, message_function, message_length, decode}
use Rattle.bip_message.specs.Message.{questions_behind, message_questions, message_question, process}
use Rattle.findings.specs.Result.{found, errors_of}
use Rattle.validation_ip.specs.Tests.{error_tests, ip_errors, ip_result}
use Rattle.runs.specs.Front.{is, front}
use Rattle.patterns.specs.Stretches.{before, starts, stretch_at, stretches_from, stretches}
use Rattle.padding.specs.Padding.{end_length, padding_length}
use Rattle.patterns.specs.Entries.{padding, text, texts, has_zeros, entries, entry_numbers}
use Rattle.patterns.specs.Detect.{patterns_questions, patterns_question, patterns_answer, patterns_output}
use Rattle.trials.specs.Trials.{Trials}

pub trials : Trials
unfolding Trials flat_map first_no answered at_front write_answer write_output within xor_if step steps octet_step register check header_check data_check encode_frame encode_questions encode_question encode_answer encode_output header_questions header_question message_function message_length decode questions_behind message_questions message_question process found errors_of error_tests ip_errors ip_result is front before starts stretch_at stretches_from stretches padding_length padding text texts end_length has_zeros entries entry_numbers patterns_questions patterns_question patterns_answer patterns_output
trials = (refl, (refl, (refl, (refl, (refl, (refl, (refl, (refl, (refl, (refl, (refl, (refl, (refl, (refl, (refl, tt)))))))))))))))
