use Rattle.bg_tile.proofs.Laws.{colours_power}
use Rattle.bg_tile.specs.steps.Characters.{cell_in}
use Rattle.bg_tile.specs.Tile.{colour_in, bg_pixel_of}
use mathlib.Core.Path.{◌∙◌}
use Rattle.bg_tile.proofs.inner.cell.Goals as goal

pub color-requires : goal.color-requires
color-requires c =
    rw (c.requires.0, ← colours_power c.args.p.bpp) c.index-index.ensures.1

pub returns : goal.returns
unfolding cell_in
returns c =
    let a = c.args in
    let index = c.index-index.ensures.0 in
    (λ j. bg_pixel_of c.index-index.result (c.color.ensures j) a.t.z a.p)
    ∙ (λ j. bg_pixel_of (index j) (colour_in a.colors.now a.direct a.t.palette (index j)) a.t.z a.p)
