use mir.Syntax.{w16}
use native.Mathlib.Omega.{arith}
use mathlib.Core.Path.{◌∙◌}
use Prim.Native.Nat.{◌*◌, ◌+◌, ◌/◌, ◌%◌}
use Rattle.base_signed.proofs.Signed.{remainder_of}
use Rattle.sprite_tile.specs.Tile.{tile_word}
use Rattle.sprite_tile.specs.steps.Placed.{placed_of}
use Rattle.sprite_tile.proofs.inner.placed.Goals as goal

pub returns : goal.returns
unfolding placed_of
returns c =
    let a = c.args in
    let x = remainder_of w16 a.s.x 512 c.struct_told-1.given.0.1 c.nine_bits.ensures.0 in
    let word = c.tile_word.ensures ∙ (λ i. tile_word a.s (c.mirror-column.ensures.0 i) (a.line / 8)) in (
      λ i. record {
        tile_x = (x i + a.t * 8) % 512;
        tile = record {
          base = word i;
          row = a.line % 8;
          flip_x = a.s.flip_x;
          palette = a.s.palette;
          z = c.obj.ensures i;
        };
      },
      record { nine = omega arith; sound = record { row_in = omega arith; palette_in = c.requires.0.1 } },
    )
