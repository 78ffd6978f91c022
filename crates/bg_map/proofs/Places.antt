-- A place of the map lies in one of its 64 tiles at most, and below 1,024.
use Prim.Native.Nat.{ℕ, ◌*◌, ◌/◌, ◌<◌, ◌≤◌}
use mathlib.Core.Bool.{Bool, true, false}
use native.Mathlib.Omega.{arith}
use native.Mathlib.Nat.{mul-le-mul}
use Rattle.bg_map.specs.Source.{side_of, extent_of}

pub tile_below : (double tile16 : Bool) (at : ℕ) → at < extent_of double tile16 → at / side_of tile16 < 64
tile_below true true at h = omega arith
tile_below true false at h = omega arith
tile_below false true at h = omega arith
tile_below false false at h = omega arith

pub tile_small : (tile16 : Bool) (at : ℕ) → at < 1024 → at / side_of tile16 < 128
tile_small true at h = omega arith
tile_small false at h = omega arith

-- its row of screens is the second at most
pub screens_below : (row across : ℕ) → row < 64 → across ≤ 2 → row / 32 * across ≤ 2
screens_below row across h k = let one : row / 32 ≤ 1 = omega arith in mul-le-mul one k

pub extent_small : (double tile16 : Bool) → extent_of double tile16 ≤ 1024
extent_small true true = omega arith
extent_small true false = omega arith
extent_small false true = omega arith
extent_small false false = omega arith
