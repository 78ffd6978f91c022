-- A picture of the right length.
use Rattle.std.specs.Prelude.{ℕ, ◌≡◌, List, length}

-- a picture's length
abbrev pub Whole : List ℕ → Type 0
Whole p = length p ≡ 172032
