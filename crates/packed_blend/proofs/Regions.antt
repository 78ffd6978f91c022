-- A region, asked once inside the colour window and once outside.
use Prim.Native.Nat.{ℕ}
use mathlib.Core.Path.{◌≡◌}
use mathlib.Core.Bool.{Bool, true, false, cond}
use Rattle.row_blend.specs.Blend.{region}

pub in_or_out : (n : ℕ) (inside : Bool) {a b : Bool} → a ≡ region n true → b ≡ region n false → cond inside a b ≡ region n inside
in_or_out n true e d = e
in_or_out n false e d = d
