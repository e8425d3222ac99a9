-- `script::chosen_part` meets its contract: a record that comes next ends within its script, so that the part is a part of that script.
use Rattle.std.specs.Prelude.{Ok}
use mathlib.Core.Path.{sym, ap, ◌∙◌}
use Rattle.script.proofs.Chooser.{part_has_its_length}
use Rattle.script.proofs.chosen_part.Goals as goal

pub slice_bounds-result-end : goal.slice_bounds-result-end
slice_bounds-result-end c =
    let next = sym c.choose.ensures ∙ c.in-Ok-Some.is ∙ ap Ok c.in-Ok-Some.field-0-is in
    part_has_its_length _ _ (λ i. (c.type_inv.first i).fits) (λ i. (c.type_inv.second i).fits) _ _ next c.in-First.is

pub slice_bounds-result-end-in-Second : goal.slice_bounds-result-end-in-Second
slice_bounds-result-end-in-Second c =
    let next = sym c.choose.ensures ∙ c.in-Ok-Some.is ∙ ap Ok c.in-Ok-Some.field-0-is in
    part_has_its_length _ _ (λ i. (c.type_inv.first i).fits) (λ i. (c.type_inv.second i).fits) _ _ next c.in-Second.is
