-- `log_listing::line::put_stopped` meets its contract: each text is put behind those before it.
-- Assumes nothing.
use mathlib.Core.Path.{ap, ◌∙◌}
use mathlib.Core.List.{[], ◌∷◌}
use Prim.Native.Nat.{ℕ}
use Rattle.std.specs.Prelude.{Err}
use Rattle.text.specs.Text.{letters, texts, field}
use Rattle.text.proofs.Texts.{puts}
use Rattle.text.proofs.Texts.InTurn.{none, then}
use Rattle.log_listing.specs.Listing.{last_line}
use Rattle.log_listing.proofs.line.put_stopped.Goals as goal

pub returns : goal.returns
returns c =
    puts (last_line (Err c.args.refusal))
    (then (c.put-behind.ensures.value, c.put-behind.ensures.output) (then (c.put_field-behind.ensures.value, c.put_field-behind.ensures.output) (then (c.put.ensures.value, c.put.ensures.output) none)))
    (ap (λ (n : ℕ). texts (letters "stopped" ∷ field n ∷ letters "\n" ∷ [])) (c.from-2.ensures ∙ c.from.ensures))
    c.requires
