-- The runs of the examples are ones that demand 3 speaks of: their check octets, and what it asks for, are computed.
-- Assumes nothing.
use mathlib.Core.Path.{◌≡◌, refl, sym, ap, subst, ◌∙◌}
use mathlib.Core.Bool.{Bool, true, false, not, ◌&&◌}
use mathlib.Core.List.{List, [], ◌∷◌, ◌++◌, map, flatten, append-nil, append_assoc}
use Prim.Native.Nat.{ℕ, zero, suc, ◌+◌}
use native.Mathlib.Omega.{arith}
use lib.ListN.{length, drop, replicate, length-append}
use Rattle.octets.specs.Number.{low_first}
use Rattle.octets.specs.Size.{size_question}
use Rattle.octets.specs.Question.{is_yes}
use Rattle.octets.proofs.Parts.{Octets, all_octets, all_octets_lem, octets_join}
use Rattle.octets.proofs.Tests.{both_true}
use Rattle.crc_tables.specs.Steps.{xor_if, step, steps}
use Rattle.crc.specs.Check.{octet_step, register, check}
use Rattle.crc.specs.Rule.{header_check, data_check}
use Rattle.crc.specs.declared.CheckRule.{CheckRule}
use Rattle.crc.specs.declared.CheckRule.TheVariants.{AnnexG, House}
use Rattle.mstp_frame.specs.Fields.{begins_preamble}
use Rattle.mstp_decode.specs.Frame.{header_fields, encode_frame}
use Rattle.run_finder.specs.Demand.{Each, Sent, Sendable, frame_of, head, HeadOnce, Filled}
use Rattle.run_finder.specs.Example.{Fills, token, heard, from254, overlapped}

-- a run that grows by a frame
module _ (rule : CheckRule) (x : Sent) where
  each_sendable : (xs : List Sent) → Each Sendable xs → Sendable x → Each Sendable (xs ++ x ∷ [])
  each_sendable [] all this = (this, tt)
  each_sendable (y ∷ xs) all this = (all.0, each_sendable xs all.1 this)

  each_head : (xs : List Sent) → Each HeadOnce (map (frame_of rule) xs) → HeadOnce (frame_of rule x) → Each HeadOnce (map (frame_of rule) (xs ++ x ∷ []))
  each_head [] all this = (this, tt)
  each_head (y ∷ xs) all this = (all.0, each_head xs all.1 this)

  joined : (xs : List Sent) → flatten (map (frame_of rule) xs) ++ frame_of rule x ≡ flatten (map (frame_of rule) (xs ++ x ∷ []))
  unfolding flatten
  joined [] = sym (append-nil (frame_of rule x))
  joined (y ∷ xs) = append_assoc (frame_of rule y) _ _ ∙ ap (λ (l : List ℕ). frame_of rule y ++ l) (joined xs)

pub fills : (rule : CheckRule) → Fills rule
unfolding flatten
fills rule = record {
  alone = λ damage fits. record { whole = sym (append-nil damage); fits = fits; sendable = tt; once = tt };
  grows = λ {run} {damage} {sent} f x source few head fits. record {
    whole = ap (λ (l : List ℕ). l ++ frame_of rule x) f.whole ∙ append_assoc damage _ _ ∙ ap (λ (l : List ℕ). damage ++ l) (joined rule x sent);
    fits = fits;
    sendable = each_sendable rule x sent f.sendable (record { source = source; few = few });
    once = each_head rule x sent f.once head;
  };
}

clash : (b : Bool) → b ≡ true → not b ≡ true → ⊥
clash true e f = let z : ◌≡◌ {A = ℕ} 0 1 = cc in omega arith
clash false e f = let z : ◌≡◌ {A = ℕ} 0 1 = cc in omega arith

-- no head stands in some octets, and as a test
abbrev pub NoHead : List ℕ → Type 0
NoHead v = (i : ℕ) → head (drop i v) ≡ true → ⊥

unfoldable no_head : List ℕ → Bool
no_head [] = not (head [])
no_head (x ∷ s) = not (head (x ∷ s)) && no_head s

no_head_lem : (s : List ℕ) → no_head s ≡ true → NoHead s
unfolding no_head
no_head_lem [] none zero here = clash (head []) here none
no_head_lem [] none (suc i) here = clash (head []) here none
no_head_lem (x ∷ s) none zero here = clash (head (x ∷ s)) here (both_true (not (head (x ∷ s))) (no_head s) none).0
no_head_lem (x ∷ s) none (suc i) here = no_head_lem s (both_true (not (head (x ∷ s))) (no_head s) none).1 i here

-- behind a frame's first octet
once : (f : List ℕ) → no_head (drop 1 f) ≡ true → HeadOnce f
once f none zero here = refl
once [] none (suc i) here = absurd (no_head_lem [] none 0 here)
once (x ∷ s) none (suc i) here = absurd (no_head_lem s none i here)

-- a frame with its check octets as they are computed
unfoldable pub framed : Sent → ℕ → ℕ → List ℕ
framed x h c = 0x55 ∷ 0xFF ∷ header_fields x.frame_type x.destination x.source (length x.body) ++ h ∷ x.body ++ low_first c

module _ (rule : CheckRule) where
  pub written : (x : Sent) (b : ℕ) (body : List ℕ) {h c : ℕ} → x.body ≡ b ∷ body
      → header_check rule (header_fields x.frame_type x.destination x.source (length x.body)) ≡ h → data_check rule x.body ≡ c
      → frame_of rule x ≡ framed x h c
  unfolding encode_frame framed
  written x b body some header data_check_lem = rw (header, ← data_check_lem, some)

  -- what is computed of such a frame and a token
  pub record Computed (x : Sent) : Type 0 where
    pub h : ℕ
    pub c : ℕ
    pub written : frame_of rule x ≡ framed x h c
    sendable : Sendable x
    octets : all_octets (framed x h c ++ frame_of rule token) ≡ true
    frame : no_head (drop 1 (framed x h c)) ≡ true
    token : no_head (drop 1 (frame_of rule token)) ≡ true

  module _ {x : Sent} (e : Computed x) (damage : List ℕ) (known : Octets damage) where
    abbrev run : List ℕ
    run = heard rule damage (x ∷ token ∷ [])

    abbrev frame : List ℕ
    frame = framed x e.h e.c

    abbrev frames : List (List ℕ)
    frames = frame ∷ frame_of rule token ∷ []

    pub octets : Octets run
    unfolding flatten
    octets = octets_join damage _ known (rw (e.written, append-nil (frame_of rule token)) (all_octets_lem (frame ++ frame_of rule token) e.octets))

    pub filled : is_yes (size_question (damage ++ flatten frames)) ≡ true → Filled rule run damage (x ∷ token ∷ [])
    filled fits = record {
      whole = refl;
      fits = rw e.written fits;
      sendable = (e.sendable, (record { source = omega arith; few = refl }, tt));
      once = (subst HeadOnce (sym e.written) (once frame e.frame), (once (frame_of rule token) e.token, tt));
    }

    -- how many octets they are after d octets of damage
    pub size : {d n : ℕ} → length damage ≡ d → length (flatten frames) ≡ n → length run ≡ d + n
    size before behind = rw (e.written, length-append damage (flatten frames), before, behind)

-- the frames of 501 and of 500 data octets, under each rule, and the one that the false frame overlaps
pub most : (rule : CheckRule) → Computed rule (from254 501)
unfolding begins_preamble framed no_head all_octets header_check data_check check register octet_step steps step xor_if encode_frame
most AnnexG = record { h = 0x95; c = 0x559C; written = written AnnexG (from254 501) 0x55 (replicate 500 0x55) refl refl refl; sendable = record { source = omega arith; few = refl }; octets = refl; frame = refl; token = refl }
most House = record { h = 0xB9; c = 0xD8F0; written = written House (from254 501) 0x55 (replicate 500 0x55) refl refl refl; sendable = record { source = omega arith; few = refl }; octets = refl; frame = refl; token = refl }

pub fewer : (rule : CheckRule) → Computed rule (from254 500)
unfolding begins_preamble framed no_head all_octets header_check data_check check register octet_step steps step xor_if encode_frame
fewer AnnexG = record { h = 0x6B; c = 0xEEF5; written = written AnnexG (from254 500) 0x55 (replicate 499 0x55) refl refl refl; sendable = record { source = omega arith; few = refl }; octets = refl; frame = refl; token = refl }
fewer House = record { h = 0xF0; c = 0xF0DE; written = written House (from254 500) 0x55 (replicate 499 0x55) refl refl refl; sendable = record { source = omega arith; few = refl }; octets = refl; frame = refl; token = refl }

unfoldable pub overlaps : Computed AnnexG overlapped
unfolding begins_preamble framed no_head all_octets header_check data_check check register octet_step steps step xor_if encode_frame
overlaps = record { h = 0x9C; c = 0x9C6C; written = written AnnexG overlapped 0x11 (replicate 492 0x11) refl refl refl; sendable = record { source = omega arith; few = refl }; octets = refl; frame = refl; token = refl }
