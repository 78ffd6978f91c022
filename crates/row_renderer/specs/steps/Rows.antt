-- The packed rows of a scene's layers. Nothing here is needed to know what a row shows.
use Rattle.std.specs.Prelude.{ℕ, cond, ◌||◌, List, ltb}
use Rattle.base_lists.specs.Tab.{tab}
use Rattle.registers.specs.Bits.{bit_of}
use Rattle.registers.specs.Scene.{Scene}
use Rattle.bg_modes.specs.Modes.{params_of}
use Rattle.bg_row.specs.Row.{bg_pixel}
use Rattle.sprite_layer.specs.Sprites.{sprite_pixel}
use Rattle.packed_pixels.specs.steps.Packed.{packed_if}

module _ (s : Scene) (y : ℕ) where
  -- a background's row, where a screen lights it
  abbrev pub bg_row : ℕ → ℕ → ℕ
  bg_row k x =
      cond ((params_of s.regs k).to_main || (params_of s.regs k).to_sub)
      (packed_if (bg_pixel s.vram s.cgram s.regs (params_of s.regs k) y x))
      0

  -- the sprites' row, where a screen lights them
  abbrev pub sprite_row : ℕ → ℕ
  sprite_row x = cond (bit_of s.regs.tm 4 || bit_of s.regs.ts 4) (packed_if (sprite_pixel s.vram s.cgram s.oam s.regs y x)) 0

  -- by the layer's number
  abbrev pub layer_row : ℕ → ℕ → ℕ
  layer_row k x = cond (ltb k 4) (bg_row k x) (sprite_row x)

  -- all five
  abbrev pub layer_rows : List (List ℕ)
  layer_rows = tab 5 (λ k. tab 256 (layer_row k))
