-- Signed numbers as the machine has them, once over the width: a result read back, the difference of two unsigned numbers,
-- and how far a sum is from zero.
use Prim.Native.Nat.{ℕ, zero, suc, ◌+◌, ◌-◌, ◌^◌, ◌<◌}
use mathlib.Core.Path.{◌≡◌, refl, ap, ◌∙◌}
use mathlib.Core.Bool.{Bool, true, false, cond}
use native.Mathlib.Omega.{arith}
use lib.Dec.{ltb}
use lib.IntN.{ℤ, pos, negsuc, neg_ℤ, ◌+ℤ◌, ◌-ℤ◌}
use lib.Signed.{mag}
use mir.Syntax.{Width, w16, w32}
use mir.Val.{SFits, to_z, of_z, hbits}
use mir.ValLaws.{to_z-of_z, to_z_pos}
use mir.Facts.{Fits-of_z, sfits_to_z, sfits_widen}
use Rattle.base_signed.specs.Remainder.{remainder}

pick_small : (t : Bool) (x y : ℤ) (k : ℕ) → mag x < k → mag y < k → mag (cond t x y) < k
pick_small true x y k p q = p
pick_small false x y k p q = q

-- what a call's signed result is, read back from its bits
pub read_back : (w : Width) {z y : ℤ} → mag z < 2 ^ hbits w → z ≡ y → to_z w (of_z w z) ≡ y
read_back w {z} small e = to_z-of_z w z (record { sfits = small }) ∙ e

-- a difference is no further from zero than the two are
pub difference_small : (a b k : ℕ) → a < k → b < k → mag (pos a -ℤ pos b) < k
difference_small a zero k p q = omega arith
difference_small a (suc b) k p q =
    pick_small (ltb a (suc b)) (negsuc (suc b - suc a)) (pos (a - suc b)) k (omega arith) (omega arith)

-- a sum is no further from zero than the two are together
pub sum_small : (x y : ℤ) (j k : ℕ) → mag x < j → mag y < k → mag (x +ℤ y) < j + k
sum_small (pos a) (pos b) j k p q = omega arith
sum_small (pos a) (negsuc b) j k p q =
    pick_small (ltb a (suc b)) (negsuc (suc b - suc a)) (pos (a - suc b)) (j + k) (omega arith) (omega arith)
sum_small (negsuc a) (pos b) j k p q =
    pick_small (ltb b (suc a)) (negsuc (suc a - suc b)) (pos (b - suc a)) (j + k) (omega arith) (omega arith)
sum_small (negsuc a) (negsuc b) j k p q = omega arith

-- a number's opposite is one further at most
pub opposite_small : (z : ℤ) (k : ℕ) → mag z < k → mag (neg_ℤ z) < k + 1
opposite_small (pos zero) k p = omega arith
opposite_small (pos (suc n)) k p = omega arith
opposite_small (negsuc n) k p = omega arith

module _ (w : Width) (a b : ℕ) (p : a < 2 ^ hbits w) (q : b < 2 ^ hbits w) where
  pub difference : to_z w a -ℤ to_z w b ≡ pos a -ℤ pos b
  difference = rw (to_z_pos w a p, to_z_pos w b q)

  pub difference_fits : SFits w (pos a -ℤ pos b)
  difference_fits = record { sfits = difference_small a b (2 ^ hbits w) p q }

  -- read back from its bits
  pub difference_read : to_z w (of_z w (to_z w a -ℤ to_z w b)) ≡ pos a -ℤ pos b
  difference_read = rw difference (to_z-of_z w (pos a -ℤ pos b) difference_fits)

-- a number goes to a call by its bits, and the remainder that the call finds is its own
pub remainder_of : (w : Width) (z : ℤ) (m : ℕ) {r : ℕ} → mag z < 2 ^ hbits w → r ≡ remainder (to_z w (of_z w z)) m →
    r ≡ remainder z m
remainder_of w z m small e = e ∙ ap (λ (y : ℤ). remainder y m) (read_back w {z = z} {y = z} small refl)

-- the same where 16 bits became 32 on the way
module _ (z : ℤ) (small : mag z < 2 ^ hbits w16) where
  fits : SFits w16 z
  fits = record { sfits = small }

  pub widens : SFits w32 (to_z w16 (of_z w16 z))
  widens = sfits_widen {w = w16} tt (sfits_to_z {w = w16} (Fits-of_z fits))

  pub widened : to_z w32 (of_z w32 (to_z w16 (of_z w16 z))) ≡ z
  widened = to_z-of_z w32 (to_z w16 (of_z w16 z)) widens ∙ to_z-of_z w16 z fits

  pub remainder_widened : (m : ℕ) {r : ℕ} → r ≡ remainder (to_z w32 (of_z w32 (to_z w16 (of_z w16 z)))) m → r ≡ remainder z m
  remainder_widened m e = e ∙ ap (λ (y : ℤ). remainder y m) widened
