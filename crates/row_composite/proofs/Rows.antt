-- A row of its colours.
use Prim.Native.Nat.{ℕ, ◌/◌, ◌%◌, ◌<◌}
use mathlib.Core.Path.{◌≡◌, sym, ap, ◌∙◌}
use mathlib.Core.Bool.{Bool, true, false, cond, ◌&&◌}
use mathlib.Core.List.{List}
use native.Mathlib.Omega.{arith}
use lib.ListN.{get_or}
use Rattle.base_lists.specs.Tab.{tab}
use Rattle.base_lists.specs.theorems.Tab.{tab_ext, get_d_tab}
use Rattle.registers.specs.declared.PPURegisters.{PPURegisters}
use Rattle.registers.specs.Screen as screen
use Rattle.line_window.specs.declared.Window.{Window}
use Rattle.line_window.specs.Window.{masked}
use Rattle.registers_windows.specs.Windows.{colour_window}
use Rattle.colour.specs.Colour.{at_brightness}
use Rattle.line_pixels.specs.declared.Lines.{Lines}
use Rattle.line_pixels.specs.Pixels.{no_pixel}
use Rattle.row_blend.specs.declared.ColorMath.{ColorMath}
use Rattle.row_blend.specs.Blend.{settings_of, colour_of}
use Rattle.row_composite.specs.Composite.{colour_at, channel_at, row_byte_at, black_row, row_bytes}
use Rattle.row_composite.proofs.Idle.{asks, asked}

module _ (r : PPURegisters) (lines : Lines) where
  -- under forced blank
  pub blank_row_lem : screen.blanked r ≡ true → black_row ≡ row_bytes r lines
  unfolding row_bytes
  blank_row_lem e = λ i. cond (sym e i) black_row (tab 768 (row_byte_at (colour_at r lines) (screen.brightness_of r)))

  -- and otherwise
  pub lit_row : (f : ℕ → ℕ) (b : ℕ) → screen.blanked r ≡ false → b ≡ screen.brightness_of r → ((x : ℕ) → x < 256 → f x ≡ colour_at r lines x) →
      tab 768 (row_byte_at f b) ≡ row_bytes r lines
  unfolding row_bytes row_byte_at
  lit_row f b e d h =
      tab_ext 768 (row_byte_at f b) (row_byte_at (colour_at r lines) (screen.brightness_of r))
      (λ n k. λ i. channel_at (n % 3) (at_brightness (h (n / 3) (omega arith) i) (d i)))
      ∙ (λ i. cond (sym e i) black_row (tab 768 (row_byte_at (colour_at r lines) (screen.brightness_of r))))

  -- the colours that the calls leave
  module _ {s : ColorMath} {w : Window} {on : Bool} {inside : List Bool} {colors : List ℕ} (settings : s ≡ settings_of r)
      (window : w ≡ colour_window r) (made : on ≡ asks s) (mask : inside ≡ tab 256 (λ x. on && masked w x))
      (mixed : colors ≡ tab 256 (λ x. colour_of s (get_or lines.main x no_pixel) (get_or lines.sub x no_pixel) (get_or inside x false))) where
    pub colour_is : (x : ℕ) → x < 256 → get_or colors x 0 ≡ colour_at r lines x
    unfolding colour_at
    colour_is x h =
        let main = get_or lines.main x no_pixel in
        let sub = get_or lines.sub x no_pixel in
        ap (λ (l : List ℕ). get_or l x 0) mixed
        ∙ (get_d_tab (λ k. colour_of s (get_or lines.main k no_pixel) (get_or lines.sub k no_pixel) (get_or inside k false)) 256 x 0 h
        ∙ (ap (λ (l : List Bool). colour_of s main sub (get_or l x false)) mask
        ∙ (ap (colour_of s main sub) (get_d_tab (λ k. on && masked w k) 256 x false h)
        ∙ (asked s main sub on (masked w x) made
        ∙ (λ i. colour_of (settings i) main sub (masked (window i) x))))))
