-- Whether a word goes on with a byte.
use Rattle.std.specs.Prelude.{ℕ, Bool, ◌&&◌, List, ltb, eqb, length, get_or}

-- does the word that ends before `to` go on with b at `at`?
abbrev pub goes_on : List ℕ → ℕ → ℕ → ℕ → Bool
goes_on s at to b = ltb at to && ltb at (length s) && eqb (get_or s at 0) b
