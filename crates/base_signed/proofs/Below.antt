-- A signed number of 32 bits below zero and not: what the test says of it, and what its flipped bits are.
use Prim.Native.Nat.{ℕ, suc, ◌-◌, ◌<◌}
use mathlib.Core.Path.{◌≡◌, refl, ap, sym, subst, ◌∙◌}
use mathlib.Core.Bool.{true, false}
use native.Mathlib.Omega.{arith}
use lib.Dec.{T}
use lib.IntN.{ℤ, pos, negsuc, nat_abs, pos-ne-negsuc}
use lib.Signed.{lt_z, non_neg}
use borrow.Author.Tests.{ltb-true}
use mir.Syntax.{w32}
use mir.Val.{Fits, SFits, to_z, of_z}
use mir.ValLaws.{to_z-of_z, to_z_pos}

-- how far below -1 a number stands
pub below : ℤ → ℕ
below (pos n) = 0
below (negsuc n) = n

-- the test, of the number itself
itself : (z : ℤ) → SFits w32 z → lt_z (to_z w32 (of_z w32 z)) (pos 0) ≡ lt_z z (pos 0)
itself z f = ap (λ (y : ℤ). lt_z y (pos 0)) (to_z-of_z w32 z f)

no_less : (n : ℕ) → lt_z (pos n) (pos 0) ≡ true → ⊥
no_less n e = let l : n < 0 = ltb-true n 0 e in omega arith

pub not_below : (z : ℤ) → SFits w32 z → lt_z (to_z w32 (of_z w32 z)) (pos 0) ≡ false → z ≡ pos (nat_abs z)
not_below (pos n) f e = refl
not_below (negsuc n) f e = let t : true ≡ false = sym (itself (negsuc n) f) ∙ e in cc

pub is_below : (z : ℤ) → SFits w32 z → lt_z (to_z w32 (of_z w32 z)) (pos 0) ≡ true → z ≡ negsuc (below z)
unfolding below
is_below (pos n) f e = absurd (no_less n (sym (itself (pos n) f) ∙ e))
is_below (negsuc n) f e = refl

pub below_small : (z : ℤ) → SFits w32 z → below z < 2147483648
unfolding below
below_small (pos n) f = omega arith
below_small (negsuc n) f = f.sfits

pub abs_small : (z : ℤ) → SFits w32 z → z ≡ pos (nat_abs z) → nat_abs z < 2147483648
abs_small (pos n) f e = f.sfits
abs_small (negsuc n) f e = absurd (pos-ne-negsuc _ _ (sym e))

pub flipped : (z : ℤ) → SFits w32 z → lt_z (to_z w32 (of_z w32 z)) (pos 0) ≡ true → to_z w32 (4294967295 - of_z w32 z) ≡ pos (below z)
unfolding below
flipped (pos n) f e = absurd (no_less n (sym (itself (pos n) f) ∙ e))
flipped (negsuc n) f e =
    let h : n < 2147483648 = f.sfits in
    let d : 4294967295 - (4294967296 - suc n) ≡ n = omega arith in
    ap (to_z w32) d ∙ to_z_pos w32 n h

-- a number that is not below zero can be cast to an unsigned one
pub cast_pos : (y : ℤ) (n : ℕ) → y ≡ pos n → n < 2147483648 → T (non_neg y) × Fits w32 (nat_abs y)
cast_pos y n e h = subst (λ (y : ℤ). T (non_neg y) × Fits w32 (nat_abs y)) (sym e) (tt, record { fits = omega arith })
