use Rattle.bg_row.specs.Row.{bg_pixel}
use Rattle.bg_tile.specs.Tile.{pixel_at}
use Rattle.line_laying.specs.Laying.{candidates_of}
use mathlib.Core.Path.{◌∙◌}
use Rattle.bg_layer.proofs.inner.candidates.Goals as goal

pub returns : goal.returns
unfolding bg_pixel
returns c =
    let a = c.args in
    let e =
    c.pixel-c.ensures
    ∙ (λ i. pixel_at a.vram.now a.cgram.now a.p.params (c.direct_color.ensures i) (c.source_column-px.ensures.0 i) (c.source_line-py.ensures.0 i)) in
    c.on_screens.ensures ∙ (λ i. candidates_of (c.shown.ensures i) a.x (e i))
