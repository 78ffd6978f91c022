-- Colour math over packed pixels. Nothing here is needed to know what a row shows.
use Rattle.std.specs.Prelude.{ℕ, ◌/◌, ◌%◌, Bool, false, cond, not, ◌&&◌, List, get_or, eqb}
use Rattle.registers.specs.Bits.{bit_of}
use Rattle.colour.specs.Colour.{math_of}
use Rattle.row_blend.specs.declared.ColorMath.{ColorMath}
use Rattle.row_blend.specs.Blend.{region}

module _ (s : ColorMath) where
  -- the colour where main is kept and where math is allowed
  unfoldable pub blended : ℕ → ℕ → Bool → Bool → ℕ
  blended main sub keep allowed =
      cond (allowed && bit_of s.layers (main / 65536 % 8))
      (math_of
      (cond keep (main % 65536) 0)
      (cond (s.use_subscreen && not (eqb (sub / 65536 % 8) 5)) (sub % 65536) s.fixed)
      s.subtract
      (s.half && (keep && not (s.use_subscreen && eqb (sub / 65536 % 8) 5))))
      (cond keep (main % 65536) 0)

  -- at column x
  unfoldable pub mixed_at : List ℕ → List ℕ → List Bool → ℕ → ℕ
  mixed_at main sub inside x =
      blended (get_or main x 0) (get_or sub x 0) (region s.clip_mode (get_or inside x false)) (region s.math_region (get_or inside x false))
