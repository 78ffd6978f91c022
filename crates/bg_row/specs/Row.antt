-- A background's pixels in a row of the screen.
use Rattle.std.specs.Prelude.{ℕ, List}
use Rattle.registers.specs.declared.PPURegisters.{PPURegisters}
use Rattle.registers.specs.Screen.{direct_colour_set}
use Rattle.line_pixels.specs.declared.Candidate.{Candidate}
use Rattle.bg_map.specs.declared.BgParams.{BgParams}
use Rattle.bg_map.specs.Source.{source_column, source_line}
use Rattle.bg_tile.specs.Tile.{pixel_at}

-- the pixel of the map that column x of row y shows, and whether it is opaque
unfoldable pub bg_pixel : List ℕ → List ℕ → PPURegisters → BgParams → ℕ → ℕ → Candidate
bg_pixel v g r p y x = pixel_at v g p (direct_colour_set r) (source_column r p x) (source_line r p y)
