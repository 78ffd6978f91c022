-- One digit more behind a number.
use Rattle.std.specs.Prelude.{ℕ, Option, Some, None, ◌+◌, ◌*◌, cond, ltb}
use Rattle.test_script.specs.Number.{digit_of, number_where}

-- the digit, where the byte is one
abbrev pub digit_if : ℕ → Option ℕ
digit_if b = cond (ltb (digit_of b) 16) (Some (digit_of b)) None

-- one digit d more behind a number n
abbrev pub more_of : ℕ → ℕ → ℕ → Option ℕ
more_of n d base = number_where (ltb d base) (n * base + d)
