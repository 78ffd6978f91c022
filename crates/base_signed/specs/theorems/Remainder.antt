-- The remainder of a number that is small already.
use Rattle.std.specs.Prelude.{ℕ, ◌<◌, ℤ, pos, negsuc}
use Rattle.std.proofs.Common.{arith, mod-lt}
use Rattle.base_signed.specs.Remainder.{remainder}

pub remainder_small : (z : ℤ) {m : ℕ} → 0 < m → remainder z m < m
remainder_small (pos n) h = mod-lt n h
remainder_small (negsuc n) {m} h = omega arith
