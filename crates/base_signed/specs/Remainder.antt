-- The Euclidean remainder.
use Rattle.std.specs.Prelude.{ℕ, ◌-◌, ◌%◌, ℤ, pos, negsuc}

-- the non-negative remainder of an integer by m, which is above 0: that of -1 is m - 1 (negsuc n is -(n + 1))
abbrev pub remainder : ℤ → ℕ → ℕ
remainder (pos n) m = n % m
remainder (negsuc n) m = m - 1 - n % m
