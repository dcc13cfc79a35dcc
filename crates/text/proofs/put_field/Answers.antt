-- `text::put_field` meets its contract: what is put is a space and the digits behind it.
-- Assumes nothing.
use Rattle.std.proofs.Common.{◌≡◌, ◌∙◌, ◌++◌, ap, sym, List, ℕ, length}
use Rattle.octets.proofs.Puts.{put_equal}
use Rattle.text.specs.Text.{letters, decimal, field}
use Rattle.text.proofs.Decimals.{fewest_decimal, space_and}
use Rattle.text.proofs.put_field.Goals as goal

pub returns : goal.returns
unfolding field
returns c =
    let digits : c.copy_from_slice.new.self ≡ decimal c.args.n =
    c.copy_from_slice.ensures.after ∙ c.decimal-k.ensures.digits ∙ fewest_decimal _ c.decimal-k.result c.decimal-k.ensures.len in
    let there = space_and c.copy_from_slice.new.self _ c.decimal-k.result (ap length c.copy_from_slice.ensures.after ∙ sym c.decimal-k.ensures.in_bounds.1) ∙ ap (λ (l : List ℕ). letters " " ++ l) digits in
    let all = put_equal _ _ there (c.put.ensures.value, c.put.ensures.output) in
    record { value = all.0; output = all.1 }
