-- The bits of a register.
use Rattle.std.specs.Prelude.{ℕ, ◌*◌, ◌/◌, ◌%◌, ◌^◌, Bool, cond, eqb, ltb}
use Rattle.base_refusal.specs.Answer.{Answer, provided}

-- bit k of a number
abbrev pub bit_of : ℕ → ℕ → Bool
bit_of v k = eqb (v / 2 ^ k % 2) 1

-- background b's nibble in two bytes: the first has BG1 low and BG2 high, the second BG3 and BG4
abbrev pub nibble_of : ℕ → ℕ → ℕ → ℕ
nibble_of first second b = cond (ltb b 2) first second / 2 ^ (b % 2 * 4) % 16

-- a background above 3 is refused 7
abbrev pub of_background : {A : Type 0} → ℕ → Answer A → Answer A
of_background b a = provided (ltb b 4) 7 a
