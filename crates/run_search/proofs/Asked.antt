-- An acceptable frame, test by test: what is read of its header, then the data check.
-- Assumes nothing.
use mathlib.Core.Path.{◌≡◌, refl, sym, ap, ◌∙◌}
use mathlib.Core.Bool.{Bool, true, false, ◌&&◌, not}
use mathlib.Core.List.{List}
use Prim.Native.Nat.{ℕ, ◌≤◌}
use borrow.Author.Tests.{eq-eqb, eqb-true, ne_eqb, le-leb, leb-true}
use lib.Dec.{eqb, leb}
use lib.ListN.{length}
use Rattle.std.specs.Prelude.{Result}
use Rattle.std.specs.Result.{is_ok}
use Rattle.octets.specs.Refusal.{result_of}
use Rattle.octets.specs.declared.refusal.Refusal.{Refusal}
use Rattle.octets.proofs.Parts.{Octets}
use Rattle.octets.proofs.Questions.{passed}
use Rattle.octets.proofs.Tests.{both_true, both_are, same_test}
use Rattle.crc.specs.Rule.{header_check}
use Rattle.crc.specs.declared.CheckRule.{CheckRule}
use Rattle.mstp_frame.specs.Fields.{begins_preamble, frame_type, source_of, data_length, field_octets, fields_part, header_check_sent}
use Rattle.mstp_frame.proofs.Header.{whole_header}
use Rattle.mstp_decode.specs.Decode.{header_check_right, data_question, decode_questions, decode_question}
use Rattle.mstp_decode.proofs.Accepted.{accepts}
use Rattle.validation_mstp.proofs.NoFindings.{answered_is}
use Rattle.run_search.specs.Acceptable.{acceptable}
use Rattle.run_search.proofs.Acceptables.{acceptable_read, facts}

module _ (rule : CheckRule) (f : List ℕ) where
  -- what is read of the header, test by test
  abbrev pub header_tests : Bool
  header_tests =
      ((((leb 8 (length f) && begins_preamble f) && leb (frame_type f) 7) && not (eqb (source_of f) 255)) && leb (data_length f) 501)
      && eqb (header_check rule (field_octets f)) (header_check_sent f)

  -- where questions 1 to 4 are answered yes, 5 and 6 decide
  asked : 8 ≤ length f → begins_preamble f ≡ true → frame_type f ≤ 7 → header_check rule (fields_part f) ≡ header_check_sent f
      → data_question rule f ≡ decode_question rule f
  unfolding decode_question decode_questions header_check_right data_question
  asked long begins known right =
      passed 1 _ (le-leb 8 (length f) long) (passed 2 _ begins (passed 3 _ (le-leb (frame_type f) 7 known) (passed 4 _ (eq-eqb _ _ right) refl)))

  module _ (octets : Octets f) where
    -- so they do of a frame with a source other than 255 and at most 501 data octets
    tests_accept : header_tests && eqb (data_question rule f) 0 ≡ true → acceptable rule f ≡ true
    tests_accept e =
        let t = both_true header_tests (eqb (data_question rule f) 0) e in
        let h = both_true _ (eqb (header_check rule (field_octets f)) (header_check_sent f)) t.0 in
        let d = both_true _ (leb (data_length f) 501) h.0 in
        let s = both_true _ (not (eqb (source_of f) 255)) d.0 in
        let k = both_true _ (leb (frame_type f) 7) s.0 in
        let l = both_true (leb 8 (length f)) (begins_preamble f) k.0 in
        let long = leb-true 8 (length f) l.0 in
        let right = eqb-true (header_check rule (field_octets f)) (header_check_sent f) h.1 in
        rw (acceptable_read rule f octets)
        (both_are (eqb (decode_question rule f) 0) _ (rw (← (asked long l.1 (leb-true (frame_type f) 7 k.1) (ap (header_check rule) (sym (whole_header f long)) ∙ right))) t.1)
        (both_are _ _ s.1 d.1))

    accept_tests : acceptable rule f ≡ true → header_tests && eqb (data_question rule f) 0 ≡ true
    unfolding begins_preamble
    accept_tests e =
        let a = facts rule f octets e in
        let r = a.read in
        let begins : begins_preamble f ≡ true = both_are _ _ (eq-eqb _ 0x55 r.first) (eq-eqb _ 0xFF r.second) in
        let right = ap (header_check rule) (whole_header f r.long) ∙ r.header in
        both_are header_tests (eqb (data_question rule f) 0)
        (both_are _ _ (both_are _ _ (both_are _ _ (both_are _ _ (both_are _ _ (le-leb 8 (length f) r.long) begins) (le-leb (frame_type f) 7 r.known))
        (ap not (ne_eqb (source_of f) 255 a.sender))) (le-leb (data_length f) 501 a.short))
        (eq-eqb _ (header_check_sent f) right))
        (eq-eqb (data_question rule f) 0 (asked r.long begins r.known r.header ∙ accepts rule f r))

    tests_are : header_tests && eqb (data_question rule f) 0 ≡ acceptable rule f
    tests_are = same_test (header_tests && eqb (data_question rule f) 0) (acceptable rule f) tests_accept accept_tests

    pub tested : {r : Result (Unit {0}) Refusal} → r ≡ result_of (data_question rule f) tt → header_tests && is_ok r ≡ acceptable rule f
    tested asked = rw (answered_is (data_question rule f) asked) tests_are

    -- where one of the first tests fails, the others are not asked
    pub untested : {b : Bool} → b ≡ header_tests → b ≡ false → b ≡ acceptable rule f
    untested same fails = fails ∙ sym (ap (λ (t : Bool). t && eqb (data_question rule f) 0) (sym same ∙ fails)) ∙ tests_are
