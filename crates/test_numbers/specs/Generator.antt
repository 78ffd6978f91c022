-- The generator that both sides of a comparison share.
use Rattle.std.specs.Prelude.{ℕ, ◌+◌, ◌*◌, ◌%◌, ◌^◌, cond, List, get_or, length, eqb}

abbrev pub next_of : ℕ → ℕ
next_of x = (x * 1664525 + 1013904223) % 2 ^ 32

-- a list's seed: four bytes, the lowest first; of any other number of bytes it is the program's own
abbrev pub seed_of : List ℕ → ℕ → ℕ
seed_of bytes own =
    cond
    (eqb (length bytes) 4)
    (get_or bytes 0 0 + get_or bytes 1 0 * 256 + get_or bytes 2 0 * 65536 + get_or bytes 3 0 * 16777216)
    own
