use Prim.Native.Nat.{ℕ, ◌+◌, ◌*◌, ◌<◌, ◌≤◌}
use native.Mathlib.Omega.{arith}
use native.Mathlib.Nat.{mul-le-mul}

-- a channel times a brightness plus one
pub product : (c b : ℕ) → c < 32 → b < 16 → c * (b + 1) ≤ 31 * 16
product c b h k =
    let p : c ≤ 31 = omega arith in let q : b + 1 ≤ 16 = omega arith in mul-le-mul p q
