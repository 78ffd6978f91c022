-- Bit 15 of a colour is not seen by colour math at a pixel.
use Rattle.std.specs.Prelude.{ℕ, ◌%◌, refl, Bool, true, false, cond, not, ◌&&◌}
use Rattle.std.proofs.Common.{ap}
use Rattle.colour.specs.Bit15.{SameColour}
use Rattle.colour.specs.theorems.Bit15.{math_blind}
use Rattle.line_pixels.specs.declared.LinePixel.{LinePixel}
use Rattle.line_pixels.specs.steps.Recoloured.{recolour}
use Rattle.row_blend.specs.declared.ColorMath.{ColorMath}
use Rattle.row_blend.specs.Blend.{region, enabled, is_backdrop, kept_colour, operand_of, halves, colour_of}

-- the settings with another coldata
abbrev pub with_fixed : ℕ → ColorMath → ColorMath
with_fixed c s = record {
  clip_mode = s.clip_mode;
  math_region = s.math_region;
  use_subscreen = s.use_subscreen;
  layers = s.layers;
  half = s.half;
  subtract = s.subtract;
  fixed = c;
}

-- of two colours the one that a test names
either : (t : Bool) (a b c d : ℕ) → SameColour a c → SameColour b d → SameColour (cond t a b) (cond t c d)
either true a b c d e h = e
either false a b c d e h = h

-- A rule that changes bit 15 at most. With both pixels and coldata changed by it, the pixel's colour differs in bit 15 at most.
pub colour_blind : (f : ℕ → ℕ) → ((c : ℕ) → SameColour (f c) c) → (s : ColorMath) (main sub : LinePixel) (inside : Bool) →
    SameColour (colour_of (with_fixed (f s.fixed) s) (recolour f main) (recolour f sub) inside) (colour_of s main sub inside)
unfolding colour_of
colour_blind f same s main sub inside =
    let t = with_fixed (f s.fixed) s in
    let kept : SameColour (kept_colour t (recolour f main) inside) (kept_colour s main inside) =
    either (region s.clip_mode inside) _ _ _ _ (same main.color) refl in
    let operand : SameColour (operand_of t (recolour f sub)) (operand_of s sub) =
    either (s.use_subscreen && not (is_backdrop sub.layer)) _ _ _ _ (same sub.color) (same s.fixed) in
    either (region s.math_region inside && enabled s.layers main) _ _ _ _
    (ap (λ (c : ℕ). c % 32768) (math_blind _ _ _ _ s.subtract (halves s sub inside) kept operand))
    kept
