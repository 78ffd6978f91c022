-- The table of modes, and a background's parameters.
use Rattle.std.specs.Prelude.{ℕ, ◌%◌, Bool, true, false, cond, ◌&&◌, List, [], ◌∷◌, get_or, eqb}
use Rattle.registers.specs.declared.PPURegisters.{PPURegisters}
use Rattle.registers.specs.Bits.{bit_of}
use Rattle.registers_bg.specs.Backgrounds.{map_base, tile_base, map_size, scroll_of, tile16_of}
use Rattle.registers_mosaic.specs.Mosaic.{mosaic_on}
use Rattle.tiles.specs.declared.BitDepth.{BitDepth}
use Rattle.tiles.specs.declared.BitDepth.TheVariants.{Two, Four, Eight}
use Rattle.line_pixels.specs.Pixels.{priority, layer_of}
use Rattle.bg_map.specs.declared.BgParams.{BgParams}
use Rattle.bg_modes.specs.declared.BgMode.{BgMode}

-- a background that a mode has: its depth, whether its colours are its own, its low and its high priority
abbrev pub has : BitDepth → Bool → ℕ → ℕ → BgMode
has depth own low high = record { present = true; bpp = depth; own_palettes = own; low = low; high = high }

-- and one that it lacks
abbrev pub lacks : BgMode
lacks = record { present = false; bpp = Two; own_palettes = false; low = 0; high = 0 }

-- the table, BG1 to BG4: in mode 0 each has 32 colours of its own
abbrev pub mode0 : List BgMode
mode0 = has Two true 8 11 ∷ has Two true 7 10 ∷ has Two true 2 5 ∷ has Two true 1 4 ∷ []

abbrev pub mode1 : ℕ → List BgMode
mode1 third = has Four false 8 11 ∷ has Four false 7 10 ∷ has Two false 2 third ∷ lacks ∷ []

abbrev pub mode3 : List BgMode
mode3 = has Eight false 5 11 ∷ has Four false 2 8 ∷ lacks ∷ lacks ∷ []

-- BG3's high priority in mode 1: 13 if bgmode bit 3
abbrev pub third_high : ℕ → ℕ
third_high bgmode = cond (bit_of bgmode 3) 13 5

-- modes 2 and 4 to 7 draw as mode 1
unfoldable pub mode_rows : ℕ → List BgMode
mode_rows bgmode = cond (eqb (bgmode % 8) 0) mode0 (cond (eqb (bgmode % 8) 3) mode3 (mode1 (third_high bgmode)))

unfoldable pub bg_mode_of : ℕ → ℕ → BgMode
bg_mode_of bgmode b = get_or (mode_rows bgmode) b lacks

-- a background's parameters; it is lit where the mode has it and tm or ts lights it
unfoldable pub params_of : PPURegisters → ℕ → BgParams
params_of r b = record {
  tilemap_base = map_base r b;
  tiledata_base = tile_base r b;
  scroll_x = (scroll_of r b).x;
  scroll_y = (scroll_of r b).y;
  bpp = (bg_mode_of r.bgmode b).bpp;
  own_palettes = (bg_mode_of r.bgmode b).own_palettes;
  w64 = (map_size r b).w64;
  h64 = (map_size r b).h64;
  tile16 = tile16_of r b;
  mosaic = mosaic_on r b;
  z_low = priority (bg_mode_of r.bgmode b).low;
  z_high = priority (bg_mode_of r.bgmode b).high;
  layer = layer_of b;
  to_main = (bg_mode_of r.bgmode b).present && bit_of r.tm b;
  to_sub = (bg_mode_of r.bgmode b).present && bit_of r.ts b;
}
