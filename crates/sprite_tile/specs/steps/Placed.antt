-- How the code holds a tile that it has fetched. Nothing here is needed to know what a sprite shows; Tile.antt says that.
use Rattle.std.specs.Prelude.{ℕ, ◌/◌, ◌%◌, ◌<◌}
use Rattle.tiles.specs.Tiles.{mirrored}
use Rattle.oam.specs.declared.Sprite.{Sprite}
use Rattle.sprite_row.specs.SpriteRow.{x9, tile_at}
use Rattle.line_pixels.specs.Pixels.{sprite_priority}
use Rattle.tiles_row.specs.steps.Rows.{TileRowSound}
use Rattle.sprite_tile.specs.declared.PlacedRow.{PlacedRow}
use Rattle.sprite_tile.specs.Tile.{tile_word}

-- tile t, from the left, of a sprite of width w, at a line of the sprite
unfoldable pub placed_of : Sprite → ℕ → ℕ → ℕ → PlacedRow
placed_of s w line t = record {
  tile_x = tile_at (x9 s) t;
  tile = record {
    base = tile_word s (mirrored t (w / 8) s.flip_x) (line / 8);
    row = line % 8;
    flip_x = s.flip_x;
    palette = s.palette;
    z = sprite_priority s.priority;
  };
}

-- the ranges of its fields
pub record PlacedSound (s : PlacedRow) : Type 0 where
  pub nine : s.tile_x < 512
  pub sound : TileRowSound s.tile
