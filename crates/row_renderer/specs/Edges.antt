-- The edges of the rules that are proved, as one record: both sides of each.
use Rattle.std.specs.Prelude.{◌≡◌, true, false}
use Rattle.registers.specs.declared.PPURegisters.{PPURegisters}
use Rattle.registers_mosaic.specs.Mosaic.{mosaic_size}
use Rattle.colour.specs.Colour.{direct_colour, channel_of, at_brightness}
use Rattle.bg_map.specs.declared.BgParams.{BgParams}
use Rattle.bg_map.specs.Source.{extent_of, source_line}
use Rattle.bg_map.specs.Map.{entry_of}
use Rattle.sprite_layer.specs.Edges.{SpriteEdges}

pub record Edges : Type 0 where
  -- the lines on sprites: x9 504 and 505, 256, 500; top 250; tall 16x32 flipped; objsel low bits 0x1B
  pub sprites : SpriteEdges
  -- 0x7FFF at brightness 7: 123 each; at 15: 255
  pub bright_7 : at_brightness 0x7FFF 7 ≡ record { red = 123; green = 123; blue = 123 }
  pub bright_15 : at_brightness 0x7FFF 15 ≡ record { red = 255; green = 255; blue = 255 }
  -- direct colour 255, palette 7: 0x73DE
  pub direct : direct_colour 255 7 ≡ 0x73DE
  -- entry 0xC403: tile 3, palette 1, low, both flips
  pub entry : entry_of 0xC403 ≡ record { tile = 3; palette = 1; high = false; flip_x = true; flip_y = true }
  -- mosaic size 4, counter 1, y 0, scroll 0, height 256: line 254
  pub line : (r : PPURegisters) (p : BgParams) → mosaic_size r ≡ 4 → r.mosaic_vcounter ≡ 1 → p.mosaic ≡ true →
      p.scroll_y ≡ 0 → extent_of p.h64 p.tile16 ≡ 256 → source_line r p 0 ≡ 254
  -- add 31 and 31, halved: 15
  pub add : channel_of 31 31 false true ≡ 15
