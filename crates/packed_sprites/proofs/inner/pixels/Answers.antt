use mathlib.Core.Path.{refl, ◌∙◌}
use Rattle.base_lists.specs.theorems.Tab.{tab_ext}
use Rattle.tiles.specs.Tiles.{index_of, mirrored}
use Rattle.sprite_tile.specs.Tile.{sprite_colours}
use Rattle.tiles_eight.specs.steps.Shades.{shade}
use Rattle.packed_sprites.proofs.Over.{sprite_shade}
use Rattle.packed_sprites.proofs.inner.pixels.Goals as goal

pub returns : goal.returns
returns c =
    let t = c.args.t in
    c.shaded.ensures
    ∙ tab_ext 8 _ _
    (λ k h.
    (λ i. shade (c.palette-colors.ensures i) c.new-head.result.bits (index_of c.args.vram.now t.base (mirrored k 8 t.flip_x) t.row 2))
    ∙ sprite_shade (sprite_colours c.args.g.now t.palette) t.palette t.z c.code.ensures.0 c.new-head.ensures refl)
