use mathlib.Core.Path.{◌∙◌}
use Rattle.line_laying.specs.Laying.{lay_lines}
use Rattle.row_tests.specs.Memory.{lent_scene}
use Rattle.row_layers.specs.Layers.{bg_shown, bg_at}
use Rattle.row_layers.specs.theorems.Numbers.{shown_low, pixel_low, shown_four, pixel_four}
use Rattle.row_layers.proofs.Numbers.{is_four}
use Rattle.row_layers.proofs.inner.lay.Goals as goal

pub returns-in-Ok : goal.returns-in-Ok
returns-in-Ok c =
    let a = c.args in
    let s = lent_scene a.r a.memory in
    let n = c.in-Ok.ensures in
    c.lay_bg.ensures
    ∙ ((λ i. lay_lines (bg_shown s (n.0 i)) (bg_at s a.y.number (n.0 i)) a.lines.now)
    ∙ (λ i. lay_lines (shown_low s a.layer n.1 i) (pixel_low s a.y.number a.layer n.1 i) a.lines.now))

pub returns-in-Err : goal.returns-in-Err
returns-in-Err c =
    let a = c.args in
    let s = lent_scene a.r a.memory in
    let last = is_four a.layer c.in-Err.ensures.1 c.requires in
    c.lay.ensures ∙ (λ i. lay_lines (shown_four s a.layer last i) (pixel_four s a.y.number a.layer last i) a.lines.now)
