-- A layer by its number: a background, or the sprites.
use Prim.Native.Nat.{ℕ, ◌<◌, ◌≤◌}
use mathlib.Core.Path.{◌≡◌}
use native.Mathlib.Omega.{arith}

-- the last of the five
pub is_four : (k : ℕ) → 4 ≤ k → k < 5 → k ≡ 4
is_four k l h = omega arith
