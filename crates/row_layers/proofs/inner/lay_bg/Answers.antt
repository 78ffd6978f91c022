use mathlib.Core.Path.{◌∙◌}
use Rattle.line_laying.specs.Laying.{lay_lines}
use Rattle.bg_row.specs.Row.{bg_pixel}
use Rattle.bg_layer.specs.Background.{bg_shown_by}
use Rattle.row_layers.proofs.inner.lay_bg.Goals as goal

pub returns : goal.returns
returns c =
    let a = c.args in
    let m = a.memory in
    c.lay.ensures
    ∙ (λ i. lay_lines (bg_shown_by a.r (c.bg_params-p.ensures i)) (bg_pixel m.vram.now m.cgram.now a.r (c.bg_params-p.ensures i) a.y.number) a.lines.now)
