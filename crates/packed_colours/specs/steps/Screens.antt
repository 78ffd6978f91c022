-- A row's colours from the packed rows of its layers. Nothing here is needed to know what a row shows.
use Rattle.std.specs.Prelude.{ℕ, Bool, cond, not, ◌&&◌, ◌||◌, List, ltb}
use Rattle.base_lists.specs.Tab.{tab}
use Rattle.registers.specs.declared.PPURegisters.{PPURegisters}
use Rattle.registers.specs.Bits.{bit_of}
use Rattle.line_window.specs.declared.Window.{Window}
use Rattle.line_window.specs.Window.{masked}
use Rattle.registers_windows.specs.Windows.{bg_window, sprite_window, colour_window}
use Rattle.line_pixels.specs.Pixels.{backdrop_of}
use Rattle.line_laying.specs.Laying.{shown_at}
use Rattle.row_blend.specs.declared.ColorMath.{ColorMath}
use Rattle.row_blend.specs.Blend.{settings_of, region}
use Rattle.row_blend.specs.steps.Blend.{by_window}
use Rattle.packed_pixels.specs.steps.Packed.{packed, line_rule}
use Rattle.packed_blend.specs.steps.Blended.{blended}

-- the window of layer k, and whether column x is barred to the layer on a screen that has these registers
abbrev pub layer_window : PPURegisters → ℕ → Window
layer_window r k = cond (ltb k 4) (bg_window r k) (sprite_window r)

abbrev pub layer_barred : PPURegisters → ℕ → ℕ → ℕ → ℕ → Bool
layer_barred r lit win k x = not (shown_at (bit_of lit k) (bit_of win k) (layer_window r k) x)

-- the colour window at column x, where a region asks for it
abbrev pub inside_at : PPURegisters → ColorMath → ℕ → Bool
inside_at r s x = (by_window s.clip_mode || by_window s.math_region) && masked (colour_window r) x

-- of the rows of BG1 to BG4 and the sprites
module _ (rows : List (List ℕ)) where
  -- column x of a screen's line
  unfoldable pub screen_at : ℕ → PPURegisters → ℕ → ℕ → ℕ → ℕ
  screen_at back r lit win x = line_rule back rows (tab 5 (λ k. tab 256 (layer_barred r lit win k))) x

  -- of the sub screen's, where colour math takes it
  abbrev pub packed_sub_at : PPURegisters → ℕ → ℕ
  packed_sub_at r x = cond (bit_of r.cgwsel 1) (screen_at (packed (backdrop_of r.coldata)) r r.ts r.tsw x) 0

  -- the colour there
  unfoldable pub colour_of_row : ℕ → PPURegisters → ℕ → ℕ
  colour_of_row back r x =
      blended (settings_of r) (screen_at back r r.tm r.tmw x) (packed_sub_at r x)
      (region (settings_of r).clip_mode (inside_at r (settings_of r) x))
      (region (settings_of r).math_region (inside_at r (settings_of r) x))
