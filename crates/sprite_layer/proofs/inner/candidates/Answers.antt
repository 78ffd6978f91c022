use mathlib.Core.Path.{◌∙◌}
use lib.ListN.{get_or}
use Rattle.base_lists.specs.theorems.Tab.{get_d_tab}
use Rattle.line_pixels.specs.Pixels.{none}
use Rattle.line_laying.specs.Laying.{candidates_of}
use Rattle.sprite_layer.specs.Sprites.{sprite_pixel}
use Rattle.sprite_layer.proofs.inner.candidates.Goals as goal

pub returns : goal.returns
returns c =
    let a = c.args in
    let at =
    (λ i. get_or (c.line-line.ensures i) a.x none)
    ∙ get_d_tab (sprite_pixel a.memory.vram.now a.memory.cgram.now a.memory.oam.now a.r a.y.number) 256 a.x none c.requires in
    c.on_screens.ensures ∙ (λ i. candidates_of (c.shown.ensures i) a.x (at i))
