-- Where no layer takes part in math, or no region allows it, a pixel keeps its colour.
use Prim.Native.Nat.{ℕ, ◌/◌, ◌%◌, ◌^◌}
use mathlib.Core.Path.{◌≡◌, sym, ap, ◌∙◌}
use mathlib.Core.Bool.{Bool, true, false, cond, not, ◌&&◌, ◌||◌, and-false}
use native.Mathlib.Nat.{zero-div}
use lib.Dec.{eqb}
use borrow.Author.Tests.{eqb-true}
use Rattle.registers.specs.Bits.{bit_of}
use Rattle.colour.specs.Colour.{math_of}
use Rattle.row_blend.specs.declared.ColorMath.{ColorMath}
use Rattle.row_blend.specs.Blend.{region}
use Rattle.packed_blend.specs.steps.Blended.{blended}

no_bit : (k : ℕ) → bit_of 0 k ≡ false
no_bit k = ap (λ (n : ℕ). eqb (n % 2) 1) (zero-div (2 ^ k))

module _ (s : ColorMath) (main sub : ℕ) (inside : Bool) where
  abbrev kept : ℕ
  kept = cond (region s.clip_mode inside) (main % 65536) 0

  without : region s.math_region inside && bit_of s.layers (main / 65536 % 8) ≡ false →
      kept ≡ blended s main sub (region s.clip_mode inside) (region s.math_region inside)
  unfolding blended
  without e =
      let clear = eqb (sub / 65536 % 8) 5 in
      let keep = region s.clip_mode inside in
      λ i.
      cond (sym e i)
      (math_of kept
      (cond (s.use_subscreen && not clear) (sub % 65536) s.fixed)
      s.subtract
      (s.half && (keep && not (s.use_subscreen && clear))))
      kept

  no_layer : s.layers ≡ 0 → region s.math_region inside && bit_of s.layers (main / 65536 % 8) ≡ false
  no_layer e =
      let allowed = region s.math_region inside in
      (λ i. allowed && ((λ j. bit_of (e j) (main / 65536 % 8)) ∙ no_bit (main / 65536 % 8)) i) ∙ and-false allowed

  nowhere : s.math_region ≡ 3 → region s.math_region inside && bit_of s.layers (main / 65536 % 8) ≡ false
  nowhere e = λ i. region (e i) inside && bit_of s.layers (main / 65536 % 8)

  by_tests : (l n : Bool) → eqb s.layers 0 ≡ l → eqb s.math_region 3 ≡ n → l || n ≡ true →
      region s.math_region inside && bit_of s.layers (main / 65536 % 8) ≡ false
  by_tests true n e f h = no_layer (eqb-true s.layers 0 e)
  by_tests false n e f h = nowhere (eqb-true s.math_region 3 (f ∙ h))

  pub idle_is : eqb s.layers 0 || eqb s.math_region 3 ≡ true →
      kept ≡ blended s main sub (region s.clip_mode inside) (region s.math_region inside)
  idle_is h = without (by_tests (eqb s.layers 0) (eqb s.math_region 3) (λ i. eqb s.layers 0) (λ i. eqb s.math_region 3) h)
