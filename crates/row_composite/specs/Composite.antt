-- The composite of both lines into a row's bytes.
use Rattle.std.specs.Prelude.{ℕ, ◌/◌, ◌%◌, cond, List, length, get_or, eqb}
use Rattle.base_refusal.specs.Answer.{Outcome, outcome}
use Rattle.base_lists.specs.Tab.{tab}
use Rattle.registers.specs.declared.PPURegisters.{PPURegisters}
use Rattle.registers.specs.Screen as screen
use Rattle.row_tests.specs.Tests.{lent_tests}
use Rattle.line_window.specs.Window.{masked}
use Rattle.registers_windows.specs.Windows.{colour_window}
use Rattle.colour.specs.declared.Rgb.{Rgb}
use Rattle.colour.specs.Colour.{at_brightness}
use Rattle.line_pixels.specs.declared.Lines.{Lines}
use Rattle.line_pixels.specs.Pixels.{no_pixel}
use Rattle.row_blend.specs.Blend.{settings_of, colour_of}

-- the colour at column x
unfoldable pub colour_at : PPURegisters → Lines → ℕ → ℕ
colour_at r lines x =
    colour_of (settings_of r) (get_or lines.main x no_pixel) (get_or lines.sub x no_pixel) (masked (colour_window r) x)

-- RGB order
abbrev pub channel_at : ℕ → Rgb → ℕ
channel_at k c = cond (eqb k 0) c.red (cond (eqb k 1) c.green c.blue)

-- byte i of a row of such colours: channel i mod 3 of pixel i / 3, at the brightness
unfoldable pub row_byte_at : (ℕ → ℕ) → ℕ → ℕ → ℕ
row_byte_at colours brightness i = channel_at (i % 3) (at_brightness (colours (i / 3)) brightness)

unfoldable pub black_row : List ℕ
black_row = tab 768 (λ i. 0)

-- the row; forced blank writes a black one
unfoldable pub row_bytes : PPURegisters → Lines → List ℕ
row_bytes r lines = cond (screen.blanked r) black_row (tab 768 (row_byte_at (colour_at r lines) (screen.brightness_of r)))

-- what the composite leaves of a lent row
abbrev pub composite_outcome : List ℕ → Lines → PPURegisters → Outcome Unit (List ℕ)
composite_outcome row lines r =
    outcome (lent_tests (eqb (length row) 768) r.mosaic_vcounter) tt (row_bytes r lines) row
