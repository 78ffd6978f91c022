use mathlib.Core.Path.{sym, ◌∙◌}
use Rattle.line_laying.specs.Laying.{lay_lines, candidate_in}
use Rattle.line_laying.specs.theorems.Unlit.{unlit_lays_nothing}
use Rattle.line_laying.proofs.Screens.{lay_row, neither}
use Rattle.bg_row.specs.Row.{bg_pixel}
use Rattle.bg_layer.specs.Background.{bg_shown_by}
use Rattle.bg_layer.proofs.inner.lay.Goals as goal

pub returns-then-p : goal.returns-then-p
returns-then-p c =
    let a = c.args in
    let lines = a.lines.now in
    c.lay.ensures
    ∙ ((λ i. lay_lines (c.shown.ensures i) (candidate_in (c.row-row.ensures i)) lines)
    ∙ lay_row (bg_shown_by a.r a.p.params) (bg_pixel a.vram.now a.cgram.now a.r a.p.params a.y.number) lines)

pub returns-else-p : goal.returns-else-p
unfolding bg_shown_by
returns-else-p c =
    let a = c.args in
    let pixel = bg_pixel a.vram.now a.cgram.now a.r a.p.params a.y.number in
    let unlit = neither _ _ c.if-p.false in
    sym (unlit_lays_nothing (bg_shown_by a.r a.p.params) pixel a.lines.now unlit.0 unlit.1 c.whole.ensures.0 c.whole.ensures.1)
