-- Colour math at one pixel.
use Rattle.std.specs.Prelude.{ℕ, ◌/◌, ◌%◌, Bool, true, false, cond, not, ◌&&◌, ◌||◌, eqb}
use Rattle.registers.specs.declared.PPURegisters.{PPURegisters}
use Rattle.registers.specs.Bits.{bit_of}
use Rattle.colour.specs.Colour.{math_of}
use Rattle.line_pixels.specs.declared.Layer.{Layer}
use Rattle.line_pixels.specs.declared.Layer.TheVariants.{Backdrop, Bg1, Bg2, Bg3, Bg4, Obj}
use Rattle.line_pixels.specs.declared.LinePixel.{LinePixel}
use Rattle.row_blend.specs.declared.ColorMath.{ColorMath}

-- cgwsel bits 6-7 keep main colour, bits 4-5 allow math, bit 1 takes the sub pixel; cgadsub bits 0-5 enable the layers, bit 6
-- halves, bit 7 subtracts
abbrev pub settings_of : PPURegisters → ColorMath
settings_of r = record {
  clip_mode = r.cgwsel / 64;
  math_region = r.cgwsel / 16 % 4;
  use_subscreen = bit_of r.cgwsel 1;
  layers = r.cgadsub % 64;
  half = bit_of r.cgadsub 6;
  subtract = bit_of r.cgadsub 7;
  fixed = r.coldata;
}

-- 0 always, 1 inside, 2 outside, 3 never
abbrev pub region : ℕ → Bool → Bool
region n inside = cond (eqb n 0) true (cond (eqb n 1) inside (cond (eqb n 2) (not inside) false))

-- BG1-4, sprites, backdrop
abbrev pub math_bit : Layer → ℕ
math_bit Bg1 = 0
math_bit Bg2 = 1
math_bit Bg3 = 2
math_bit Bg4 = 3
math_bit Obj = 4
math_bit Backdrop = 5

-- sprites only with the math mark
abbrev pub mark_needed : Layer → Bool
mark_needed Bg1 = false
mark_needed Bg2 = false
mark_needed Bg3 = false
mark_needed Bg4 = false
mark_needed Obj = true
mark_needed Backdrop = false

abbrev pub enabled : ℕ → LinePixel → Bool
enabled layers p = bit_of layers (math_bit p.layer) && (p.obj_math || not (mark_needed p.layer))

abbrev pub is_backdrop : Layer → Bool
is_backdrop Bg1 = false
is_backdrop Bg2 = false
is_backdrop Bg3 = false
is_backdrop Bg4 = false
is_backdrop Obj = false
is_backdrop Backdrop = true

module _ (s : ColorMath) where
  -- main's colour, or black where it is not kept
  abbrev pub kept_colour : LinePixel → Bool → ℕ
  kept_colour main inside = cond (region s.clip_mode inside) main.color 0

  -- the sub pixel, or coldata if that is backdrop; without cgwsel bit 1, coldata
  abbrev pub operand_of : LinePixel → ℕ
  operand_of sub = cond (s.use_subscreen && not (is_backdrop sub.layer)) sub.color s.fixed

  -- coldata stands in for a transparent sub pixel
  abbrev pub stands_in : LinePixel → Bool
  stands_in sub = s.use_subscreen && is_backdrop sub.layer

  -- halving follows if cgadsub bit 6, main was kept and the operand isn't a stand-in
  abbrev pub halves : LinePixel → Bool → Bool
  halves sub inside = s.half && (region s.clip_mode inside && not (stands_in sub))

  -- the colour of a pixel, inside the colour window or outside
  unfoldable pub colour_of : LinePixel → LinePixel → Bool → ℕ
  colour_of main sub inside =
      cond (region s.math_region inside && enabled s.layers main)
      (math_of (kept_colour main inside) (operand_of sub) s.subtract (halves sub inside))
      (kept_colour main inside)
