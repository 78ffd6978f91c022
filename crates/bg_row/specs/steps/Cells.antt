-- The cells of a row: how the code decodes it. Nothing here is needed to know what a background shows.
use Rattle.std.specs.Prelude.{ℕ, ◌+◌, ◌*◌, ◌/◌, ◌%◌, Bool, List}
use Rattle.line_pixels.specs.declared.Candidate.{Candidate}
use Rattle.bg_map.specs.declared.BgParams.{BgParams}
use Rattle.bg_map.specs.Source.{extent_of}
use Rattle.bg_tile.specs.Tile.{pixel_at}

-- the column of the map that cell i holds
abbrev pub cell_column : BgParams → ℕ → ℕ
cell_column p i = (p.scroll_x / 8 * 8 + i) % extent_of p.w64 p.tile16

unfoldable pub cell_at : List ℕ → List ℕ → BgParams → Bool → ℕ → ℕ → Candidate
cell_at v g p direct py i = pixel_at v g p direct (cell_column p i) py
