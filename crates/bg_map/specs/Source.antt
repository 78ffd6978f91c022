-- Where on its map a background's pixels come from.
use Rattle.std.specs.Prelude.{ℕ, ◌+◌, ◌-◌, ◌*◌, ◌%◌, Bool, true, false, pos, ◌+ℤ◌, ◌-ℤ◌}
use Rattle.base_signed.specs.Remainder.{remainder}
use Rattle.registers.specs.declared.PPURegisters.{PPURegisters}
use Rattle.registers_mosaic.specs.Mosaic.{block_if, offset_if}
use Rattle.bg_map.specs.declared.BgParams.{BgParams}

-- tile side is 8 or 16
abbrev pub side_of : Bool → ℕ
side_of true = 16
side_of false = 8

-- map width and height are 32 or 64 tiles
abbrev pub extent_of : Bool → Bool → ℕ
extent_of true tile16 = 64 * side_of tile16
extent_of false tile16 = 32 * side_of tile16

-- source column: x - x mod block, plus horizontal scroll, mod map width
unfoldable pub source_column : PPURegisters → BgParams → ℕ → ℕ
source_column r p x = (x - x % block_if p.mosaic r + p.scroll_x) % extent_of p.w64 p.tile16

-- source line: y + 1 - offset + vertical scroll, as the non-negative remainder by map height
unfoldable pub source_line : PPURegisters → BgParams → ℕ → ℕ
source_line r p y =
    remainder ((pos (y + 1) -ℤ offset_if p.mosaic r) +ℤ pos p.scroll_y) (extent_of p.h64 p.tile16)
