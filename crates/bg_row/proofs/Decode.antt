-- The cells of a character, and what the columns take of the cells.
use Prim.Native.Nat.{ℕ, ◌+◌, ◌-◌, ◌*◌, ◌/◌, ◌%◌, ◌<◌}
use mathlib.Core.Path.{◌≡◌, ap, ◌∙◌}
use mathlib.Core.Bool.{Bool, true, false, ◌&&◌}
use mathlib.Core.List.{List}
use native.Mathlib.Omega.{arith}
use Rattle.registers.specs.declared.PPURegisters.{PPURegisters}
use Rattle.registers.specs.Screen.{direct_colour_set}
use Rattle.registers_mosaic.specs.Mosaic.{block_if}
use Rattle.bg_map.specs.declared.BgParams.{BgParams}
use Rattle.bg_map.specs.Source.{extent_of, source_column, source_line}
use Rattle.bg_tile.specs.Tile.{bg_colours, is_eight, pixel_at}
use Rattle.bg_tile.specs.steps.Characters.{character_row_at, cell_in}
use Rattle.bg_tile.proofs.Laws.{cell_is_pixel}
use Rattle.bg_row.specs.Row.{bg_pixel}
use Rattle.bg_row.specs.steps.Cells.{cell_column, cell_at}

-- a character's cells lie side by side, from a multiple of 8 on
side_by_side : (a b : Bool) (s j k : ℕ) → k < 8 →
    (s / 8 * 8 + j * 8) % extent_of a b + k ≡ (s / 8 * 8 + (j * 8 + k)) % extent_of a b
side_by_side true true s j k h = omega arith
side_by_side true false s j k h = omega arith
side_by_side false true s j k h = omega arith
side_by_side false false s j k h = omega arith

from_eight : (a b : Bool) (s j : ℕ) → (s / 8 * 8 + j * 8) % extent_of a b % 8 ≡ 0
from_eight true true s j = omega arith
from_eight true false s j = omega arith
from_eight false true s j = omega arith
from_eight false false s j = omega arith

module _ (v g : List ℕ) (p : BgParams) (direct : Bool) (py : ℕ) where
  -- cell k of character j
  pub cell_of : (j k : ℕ) → k < 8 →
      cell_in v (bg_colours g p (character_row_at v p (cell_column p (j * 8)) py).palette) p (is_eight p.bpp && direct)
      (character_row_at v p (cell_column p (j * 8)) py) k
      ≡ cell_at v g p direct py (j * 8 + k)
  unfolding cell_at
  cell_of j k h =
      cell_is_pixel (cell_column p (j * 8)) k (from_eight p.w64 p.tile16 p.scroll_x j) h v p py g direct
      ∙ ap (λ (c : ℕ). pixel_at v g p direct c py) (side_by_side p.w64 p.tile16 p.scroll_x j k h)

-- the cell that column x takes is the pixel that it shows
pub cell_shown : (v g : List ℕ) (r : PPURegisters) (p : BgParams) (y x : ℕ) →
    cell_at v g p (direct_colour_set r) (source_line r p y) (x - x % block_if p.mosaic r + p.scroll_x % 8) ≡ bg_pixel v g r p y x
unfolding cell_at bg_pixel source_column
cell_shown v g r p y x =
    let n = x - x % block_if p.mosaic r in
    let e : p.scroll_x / 8 * 8 + (n + p.scroll_x % 8) ≡ n + p.scroll_x = omega arith in
    ap (λ (c : ℕ). pixel_at v g p (direct_colour_set r) (c % extent_of p.w64 p.tile16) (source_line r p y)) e
