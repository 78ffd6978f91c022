use mathlib.Core.Path.{sym, ◌∙◌}
use Rattle.line_laying.specs.Laying.{lay_lines, candidate_in}
use Rattle.line_laying.specs.theorems.Unlit.{unlit_lays_nothing}
use Rattle.line_laying.proofs.Screens.{lay_row, neither}
use Rattle.sprite_layer.specs.Sprites.{sprite_pixel, sprites_shown}
use Rattle.sprite_layer.proofs.inner.lay.Goals as goal

pub returns-then-shown : goal.returns-then-shown
returns-then-shown c =
    let a = c.args in
    let lines = a.lines.now in
    c.lay_few.ensures
    ∙ ((λ i. lay_lines (c.shown-shown.ensures i) (candidate_in (c.line-line.ensures i)) lines)
    ∙ lay_row (sprites_shown a.r) (sprite_pixel a.memory.vram.now a.memory.cgram.now a.memory.oam.now a.r a.y.number) lines)

pub returns-else-shown : goal.returns-else-shown
returns-else-shown c =
    let a = c.args in
    let pixel = sprite_pixel a.memory.vram.now a.memory.cgram.now a.memory.oam.now a.r a.y.number in
    let unlit = neither _ _ c.if-shown.false in
    let main = sym (λ i. (c.shown-shown.ensures i).to_main) ∙ unlit.0 in
    let sub = sym (λ i. (c.shown-shown.ensures i).to_sub) ∙ unlit.1 in
    sym (unlit_lays_nothing (sprites_shown a.r) pixel a.lines.now main sub c.whole.ensures.0 c.whole.ensures.1)
