-- Nine bits as a signed column, in the machine's 16 bits.
use Prim.Native.Nat.{ℕ, ◌≤◌, ◌<◌}
use mathlib.Core.Path.{◌≡◌, ◌∙◌}
use native.Mathlib.Omega.{arith}
use lib.Dec.{lit<}
use lib.IntN.{pos, ◌-ℤ◌}
use borrow.Author.Tests.{lt-ltb, le-ltb}
use mir.Syntax.{w16}
use mir.Val.{SFits, to_z, of_z}
use mir.ValLaws.{to_z_pos}
use Rattle.base_signed.proofs.Signed.{difference_fits, difference_read}
use Rattle.oam.specs.Sprites.{signed9}

pub low : (n : ℕ) → n < 256 → to_z w16 n ≡ signed9 n
low n h = simp (lt-ltb n 256 h) (to_z_pos w16 n (omega arith))

module _ (n : ℕ) (g : 256 ≤ n) (h : n < 512) where
  small : n < 32768
  small = omega arith

  pub high_fits : SFits w16 (to_z w16 n -ℤ pos 512)
  high_fits = rw (to_z_pos w16 n small) (difference_fits w16 n 512 small (lit< tt))

  pub high : to_z w16 (of_z w16 (to_z w16 n -ℤ pos 512)) ≡ signed9 n
  high = difference_read w16 n 512 small (lit< tt) ∙ simp (le-ltb n 256 g)
