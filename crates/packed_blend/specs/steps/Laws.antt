-- Colour math over packed pixels is colour math, in the low 16 bits of the colours.
use Rattle.std.specs.Prelude.{ℕ, ◌/◌, ◌%◌, ◌<◌, ◌≡◌, refl, Bool, true, false, ◌&&◌, ◌||◌}
use Rattle.std.proofs.Common.{sym, ◌∙◌, arith, ne_eqb}
use Rattle.std.proofs.Math.Bool.{cond, not, and-true, and-false}
use Rattle.std.proofs.Math.Dec.{eqb}
use Rattle.registers.specs.Bits.{bit_of}
use Rattle.colour.specs.Colour.{math_of}
use Rattle.line_pixels.specs.declared.Layer.{Layer}
use Rattle.line_pixels.specs.declared.Layer.TheVariants.{Backdrop, Bg1, Bg2, Bg3, Bg4, Obj}
use Rattle.line_pixels.specs.declared.LinePixel.{LinePixel}
use Rattle.line_pixels.specs.steps.Recoloured.{recolour}
use Rattle.row_blend.specs.declared.ColorMath.{ColorMath}
use Rattle.row_blend.specs.Blend.{region, math_bit, mark_needed, is_backdrop, colour_of}
use Rattle.packed_pixels.specs.steps.Packed.{code_of, packed}
use Rattle.packed_pixels.specs.steps.Laws.{code_of_lem, colour_of_lem}
use Rattle.packed_blend.specs.steps.Blended.{blended}

-- a colour's 16 bits
abbrev pub low16 : ℕ → ℕ
low16 c = c % 65536

-- the backdrop is known by its code
clear_is : (l : Layer) (m : Bool) → eqb (code_of l m) 5 ≡ is_backdrop l
clear_is Bg1 m = refl
clear_is Bg2 m = refl
clear_is Bg3 m = refl
clear_is Bg4 m = refl
clear_is Obj true = refl
clear_is Obj false = refl
clear_is Backdrop m = refl

-- and the layers that take part by theirs
no_bit : (layers : ℕ) → layers < 64 → bit_of layers 6 ≡ false
no_bit layers h = ne_eqb (layers / 64 % 2) 1 (λ e. omega arith)

enabled_is : (layers : ℕ) → layers < 64 → (l : Layer) (m : Bool) →
    bit_of layers (code_of l m) ≡ bit_of layers (math_bit l) && (m || not (mark_needed l))
enabled_is layers h Bg1 true = sym (and-true (bit_of layers 0))
enabled_is layers h Bg1 false = sym (and-true (bit_of layers 0))
enabled_is layers h Bg2 true = sym (and-true (bit_of layers 1))
enabled_is layers h Bg2 false = sym (and-true (bit_of layers 1))
enabled_is layers h Bg3 true = sym (and-true (bit_of layers 2))
enabled_is layers h Bg3 false = sym (and-true (bit_of layers 2))
enabled_is layers h Bg4 true = sym (and-true (bit_of layers 3))
enabled_is layers h Bg4 false = sym (and-true (bit_of layers 3))
enabled_is layers h Obj true = sym (and-true (bit_of layers 4))
enabled_is layers h Obj false = no_bit layers h ∙ sym (and-false (bit_of layers 4))
enabled_is layers h Backdrop true = sym (and-true (bit_of layers 5))
enabled_is layers h Backdrop false = sym (and-true (bit_of layers 5))

module _ (s : ColorMath) (low : s.layers < 64) (a b : LinePixel) (inside : Bool) where
  pub blended_is :
      blended s (packed a) (packed b) (region s.clip_mode inside) (region s.math_region inside)
      ≡ colour_of s (recolour low16 a) (recolour low16 b) inside
  unfolding blended colour_of
  blended_is =
      let on = (λ i. bit_of s.layers (code_of_lem a i)) ∙ enabled_is s.layers low a.layer a.obj_math in
      let clear = (λ i. eqb (code_of_lem b i) 5) ∙ clear_is b.layer b.obj_math in
      let keep = region s.clip_mode inside in
      λ i.
      cond (region s.math_region inside && on i)
      (math_of
      (cond keep (colour_of_lem a i) 0)
      (cond (s.use_subscreen && not (clear i)) (colour_of_lem b i) s.fixed)
      s.subtract
      (s.half && (keep && not (s.use_subscreen && clear i))))
      (cond keep (colour_of_lem a i) 0)

-- without the sub pixel the operand is coldata, whatever the sub pixel is
pub any_sub : (s : ColorMath) (main m n : ℕ) (keep allowed : Bool) → s.use_subscreen ≡ false →
    blended s main m keep allowed ≡ blended s main n keep allowed
unfolding blended
any_sub s main m n keep allowed e =
    let kept = cond keep (main % 65536) 0 in
    let by : Bool → ℕ → ℕ = λ taken sub.
    cond (allowed && bit_of s.layers (main / 65536 % 8))
    (math_of kept
    (cond (taken && not (eqb (sub / 65536 % 8) 5)) (sub % 65536) s.fixed)
    s.subtract
    (s.half && (keep && not (taken && eqb (sub / 65536 % 8) 5))))
    kept in
    (λ i. by (e i) m) ∙ sym (λ i. by (e i) n)
