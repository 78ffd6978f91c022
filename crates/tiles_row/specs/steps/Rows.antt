-- A row of a tile: the ranges of its fields, and its colour indexes.
use Rattle.std.specs.Prelude.{ℕ, ◌<◌, List}
use Rattle.tiles.specs.declared.BitDepth.{BitDepth}
use Rattle.tiles.specs.Tiles.{index_of, pairs_of, mirrored}
use Rattle.tiles_row.specs.declared.TileRow.{TileRow}

pub record TileRowSound (t : TileRow) : Type 0 where
  pub row_in : t.row < 8
  pub palette_in : t.palette < 8

-- the colour index of its pixel k, from the left, at a depth: a horizontal flip mirrors the eight
abbrev pub row_index : List ℕ → BitDepth → TileRow → ℕ → ℕ
row_index v bpp t k = index_of v t.base (mirrored k 8 t.flip_x) t.row (pairs_of bpp)
