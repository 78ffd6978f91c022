use native.Mathlib.Omega.{arith}
use Prim.Native.Nat.{◌<◌}
use mathlib.Core.Path.{◌∙◌}
use Rattle.sprite_fetch.proofs.Shows.{drawn_line_lem}
use Rattle.sprite_layer.specs.Sprites.{view_of, chosen_sprites, sprite_pixel}
use Rattle.sprite_layer.proofs.inner.line.Goals as goal
use Rattle.sprite_layer.proofs.inner.line.Goals.{After-draw}

-- objsel is a byte
byte : (c : After-draw) → c.args.r.objsel < 256
byte c = omega arith

pub returns : goal.returns
unfolding sprite_pixel
returns c =
    let a = c.args in
    c.draw.ensures
    ∙ drawn_line_lem a.memory.vram.now a.memory.cgram.now (view_of a.r a.y.number) (byte c) (chosen_sprites a.memory.oam.now a.r a.y.number) c.fetched_rows.ensures.0
