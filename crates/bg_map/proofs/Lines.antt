-- The signed steps of the source line: a row's line a, less the mosaic offset z, plus the scroll s.
use Prim.Native.Nat.{ℕ, ◌+◌, ◌^◌, ◌<◌}
use mathlib.Core.Path.{◌≡◌, ap, ◌∙◌}
use native.Mathlib.Omega.{arith}
use lib.IntN.{ℤ, pos, neg_ℤ, ◌+ℤ◌, ◌-ℤ◌}
use lib.Signed.{mag}
use mir.Syntax.{w16, w32}
use mir.Val.{SFits, to_z, of_z, hbits}
use mir.ValLaws.{to_z-of_z, to_z_pos}
use Rattle.base_signed.specs.Remainder.{remainder}
use Rattle.base_signed.proofs.Signed.{widened, sum_small, opposite_small}

module _ (a s : ℕ) (z : ℤ) (low : a < 256) (wide : s < 65536) (small : mag z < 2 ^ hbits w16) where
  -- the offset goes from 16 bits to 32
  abbrev offset : ℤ
  offset = to_z w32 (of_z w32 (to_z w16 (of_z w16 z)))

  less : to_z w32 a -ℤ offset ≡ pos a -ℤ z
  less = rw (to_z_pos w32 a (omega arith), widened z small)

  less_small : mag (pos a -ℤ z) < 256 + (2 ^ hbits w16 + 1)
  less_small = sum_small (pos a) (neg_ℤ z) 256 (2 ^ hbits w16 + 1) low (opposite_small z (2 ^ hbits w16) small)

  less_is_held : SFits w32 (pos a -ℤ z)
  less_is_held = record { sfits = omega (arith, less_small) }

  pub less_fits : SFits w32 (to_z w32 a -ℤ offset)
  less_fits = rw less less_is_held

  scrolled : to_z w32 (of_z w32 (to_z w32 a -ℤ offset)) +ℤ to_z w32 s ≡ (pos a -ℤ z) +ℤ pos s
  scrolled = rw (less, to_z_pos w32 s (omega arith), to_z-of_z w32 (pos a -ℤ z) less_is_held)

  scrolled_is_held : SFits w32 ((pos a -ℤ z) +ℤ pos s)
  scrolled_is_held =
      record { sfits = omega (arith, sum_small (pos a -ℤ z) (pos s) (256 + (2 ^ hbits w16 + 1)) 65536 less_small wide) }

  pub scrolled_fits : SFits w32 (to_z w32 (of_z w32 (to_z w32 a -ℤ offset)) +ℤ to_z w32 s)
  scrolled_fits = rw scrolled scrolled_is_held

  -- the remainder that a call finds of their sum is the sum's
  pub line_of : (m : ℕ) {r : ℕ} →
      r ≡ remainder (to_z w32 (of_z w32 (to_z w32 (of_z w32 (to_z w32 a -ℤ offset)) +ℤ to_z w32 s))) m →
      r ≡ remainder ((pos a -ℤ z) +ℤ pos s) m
  line_of m e =
      e ∙ ap (λ (y : ℤ). remainder y m) (ap (λ (y : ℤ). to_z w32 (of_z w32 y)) scrolled ∙ to_z-of_z w32 ((pos a -ℤ z) +ℤ pos s) scrolled_is_held)
