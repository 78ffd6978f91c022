-- Eight pixels of the map share one row of a character: how the code decodes them. Nothing here is needed to know what a
-- background shows; Tile.antt says that.
use Rattle.std.specs.Prelude.{ℕ, ◌%◌, Bool, List}
use Rattle.tiles.specs.Tiles.{tile_words}
use Rattle.line_pixels.specs.declared.Candidate.{Candidate}
use Rattle.bg_map.specs.declared.BgParams.{BgParams}
use Rattle.bg_map.specs.declared.MapEntry.{MapEntry}
use Rattle.bg_map.specs.Map.{entry_at}
use Rattle.tiles_row.specs.declared.TileRow.{TileRow}
use Rattle.tiles_row.specs.steps.Rows.{row_index}
use Rattle.bg_tile.specs.Tile.{fine_of, character_word, priority_of, colour_in, bg_pixel_of}

-- the row of a character that holds pixel (px, py), under its entry
abbrev pub character_row_under : BgParams → MapEntry → ℕ → ℕ → TileRow
character_row_under p e px py = record {
  base = character_word p.tiledata_base e.tile (fine_of px p.tile16 e.flip_x) (fine_of py p.tile16 e.flip_y) (tile_words p.bpp);
  row = fine_of py p.tile16 e.flip_y % 8;
  flip_x = e.flip_x;
  palette = e.palette;
  z = priority_of p e.high;
}

unfoldable pub character_row_at : List ℕ → BgParams → ℕ → ℕ → TileRow
character_row_at v p px py = character_row_under p (entry_at v p px py) px py

-- its pixel k, where the tile has these colours
unfoldable pub cell_in : List ℕ → List ℕ → BgParams → Bool → TileRow → ℕ → Candidate
cell_in v colours p direct t k =
    bg_pixel_of (row_index v p.bpp t k) (colour_in colours direct t.palette (row_index v p.bpp t k)) t.z p
