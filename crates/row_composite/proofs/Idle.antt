-- What a row need not do: the colour window where no region asks for it, and math where no layer takes part or no region allows it.
use Prim.Native.Nat.{ℕ}
use mathlib.Core.Path.{◌≡◌, refl, sym, ap, ◌∙◌}
use mathlib.Core.Bool.{Bool, true, false, cond, not, ◌&&◌, ◌||◌, true≢false, and-false}
use Rattle.registers.specs.Bits.{bit_of}
use Rattle.line_pixels.specs.declared.Layer.{Layer}
use Rattle.line_pixels.specs.declared.Layer.TheVariants.{Backdrop, Bg1, Bg2, Bg3, Bg4, Obj}
use Rattle.line_pixels.specs.declared.LinePixel.{LinePixel}
use Rattle.colour.specs.Colour.{math_of}
use Rattle.row_blend.specs.declared.ColorMath.{ColorMath}
use Rattle.row_blend.specs.Blend.{region, math_bit, mark_needed, enabled, kept_colour, operand_of, stands_in, halves, colour_of}
use Rattle.row_blend.specs.steps.Blend.{by_window}
use lib.Dec.{eqb}

-- a region that does not ask for the window is the same inside and outside
by_tests : (z o t a b : Bool) → o || t ≡ false →
    cond z true (cond o a (cond t (not a) false)) ≡ cond z true (cond o b (cond t (not b) false))
by_tests z true t a b e = absurd (true≢false e)
by_tests z false true a b e = absurd (true≢false e)
by_tests z false false a b e = refl

same_region : (n : ℕ) (a b : Bool) → by_window n ≡ false → region n a ≡ region n b
same_region n a b = by_tests (eqb n 0) (eqb n 1) (eqb n 2) a b

neither : (a b : Bool) → a || b ≡ false → (a ≡ false) × (b ≡ false)
neither false b e = (refl, e)
neither true b e = absurd (true≢false e)

-- does a region ask for it?
abbrev pub asks : ColorMath → Bool
asks s = by_window s.clip_mode || by_window s.math_region

module _ (s : ColorMath) (main sub : LinePixel) where
  same_colour : (a b : Bool) → asks s ≡ false → colour_of s main sub a ≡ colour_of s main sub b
  unfolding colour_of
  same_colour a b e =
      let n = neither (by_window s.clip_mode) (by_window s.math_region) e in
      let kept = same_region s.clip_mode a b n.0 in
      let allowed = same_region s.math_region a b n.1 in
      λ i.
      cond (allowed i && enabled s.layers main)
      (math_of (cond (kept i) main.color 0) (operand_of s sub) s.subtract (s.half && (kept i && not (stands_in s sub))))
      (cond (kept i) main.color 0)

  -- so the window is made only where one asks for it
  pub asked : (on t : Bool) → on ≡ asks s → colour_of s main sub (on && t) ≡ colour_of s main sub t
  asked true t e = refl
  asked false t e = same_colour false t (sym e)

  -- the colour, where math takes part and where it does not
  abbrev mixed : Bool → Bool → ℕ
  mixed on inside =
      cond on (math_of (kept_colour s main inside) (operand_of s sub) s.subtract (halves s sub inside)) (kept_colour s main inside)

  -- without a layer there is no math
  no_bit : (l : Layer) → bit_of 0 (math_bit l) ≡ false
  no_bit Backdrop = refl
  no_bit Bg1 = refl
  no_bit Bg2 = refl
  no_bit Bg3 = refl
  no_bit Bg4 = refl
  no_bit Obj = refl

  pub no_layer : (inside : Bool) → s.layers ≡ 0 → kept_colour s main inside ≡ colour_of s main sub inside
  unfolding colour_of
  no_layer inside e =
      let marked = main.obj_math || not (mark_needed main.layer) in
      let allowed = region s.math_region inside in
      let off : enabled s.layers main ≡ false =
      (λ i. bit_of (e i) (math_bit main.layer) && marked) ∙ (λ i. no_bit main.layer i && marked) in
      sym (ap (λ (on : Bool). mixed on inside) ((λ i. allowed && off i) ∙ and-false allowed))

  -- nor where no region allows it
  pub nowhere : (inside : Bool) → s.math_region ≡ 3 → kept_colour s main inside ≡ colour_of s main sub inside
  unfolding colour_of
  nowhere inside e = λ i. mixed (region (sym e i) inside && enabled s.layers main) inside
