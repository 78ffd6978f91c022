use mathlib.Core.Path.{◌∙◌}
use mathlib.Core.List.{[], ◌∷◌}
use Rattle.base_lists.specs.Tab.{tab}
use Rattle.packed_pixels.specs.steps.Packed.{line_rule}
use Rattle.packed_colours.specs.steps.Screens.{screen_at}
use Rattle.packed_colours.proofs.inner.screen.Goals as goal

pub returns : goal.returns
unfolding screen_at tab
returns c =
    let a = c.args in
    c.line.ensures ∙ (λ i. tab 256 (line_rule a.back a.rows.now (c.layer_barred.ensures i ∷ c.layer_barred-2.ensures i ∷ c.layer_barred-3.ensures i ∷ c.layer_barred-4.ensures i ∷ c.layer_barred-5.ensures i ∷ [])))
