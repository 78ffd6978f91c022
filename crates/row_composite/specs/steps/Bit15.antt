-- Bit 15 of a colour is not seen by the composite.
use Rattle.std.specs.Prelude.{ℕ, ◌/◌, ◌%◌, ◌≡◌, get_or}
use Rattle.std.proofs.Common.{◌∙◌}
use Rattle.std.proofs.Math.Bool.{cond}
use Rattle.base_lists.specs.Tab.{tab}
use Rattle.registers.specs.declared.PPURegisters.{PPURegisters}
use Rattle.registers.specs.Replaced.{with_coldata}
use Rattle.registers.specs.Screen as screen
use Rattle.line_window.specs.Window.{masked}
use Rattle.registers_windows.specs.Windows.{window_of, colour_window}
use Rattle.colour.specs.Bit15.{SameColour}
use Rattle.colour.specs.theorems.Bit15.{brightness_blind}
use Rattle.line_pixels.specs.declared.Lines.{Lines}
use Rattle.line_pixels.specs.Pixels.{no_pixel}
use Rattle.line_pixels.specs.steps.Recoloured.{recoloured_lines}
use Rattle.line_laying.specs.steps.Recoloured.{pixel_recoloured}
use Rattle.row_blend.specs.Blend.{settings_of, colour_of}
use Rattle.row_blend.specs.steps.Bit15.{colour_blind}
use Rattle.row_composite.specs.Composite.{colour_at, channel_at, row_byte_at, black_row, row_bytes}

-- a rule that keeps colour 0 and changes bit 15 at most, and both lines and coldata changed by it
module _ (f : ℕ → ℕ) (black : f 0 ≡ 0) (same : (c : ℕ) → SameColour (f c) c) (r : PPURegisters) (lines : Lines) where
  -- the colour at column x differs in bit 15 at most
  column_blind : (x : ℕ) → SameColour (colour_at (with_coldata (f r.coldata) r) (recoloured_lines f lines) x) (colour_at r lines x)
  unfolding colour_at window_of
  column_blind x =
      let inside = masked (colour_window r) x in
      (λ i.
      colour_of (settings_of (with_coldata (f r.coldata) r))
      (pixel_recoloured f black lines.main x i)
      (pixel_recoloured f black lines.sub x i)
      inside
      % 32768)
      ∙ colour_blind f same (settings_of r) (get_or lines.main x no_pixel) (get_or lines.sub x no_pixel) inside

  -- and the row is the same
  pub row_blind : row_bytes (with_coldata (f r.coldata) r) (recoloured_lines f lines) ≡ row_bytes r lines
  unfolding row_bytes row_byte_at
  row_blind =
      λ i.
      cond (screen.blanked r) black_row
      (tab 768 (λ n. channel_at (n % 3) (brightness_blind _ _ (screen.brightness_of r) (column_blind (n / 3)) i)))
