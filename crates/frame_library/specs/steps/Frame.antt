-- What was taken of a plate.
use Rattle.std.specs.Prelude.{ℕ, ◌≡◌, ◌⊎◌, List}
use Rattle.registers.specs.Scene.{Scene}
use Rattle.frame_library.specs.Frame.{Reached}

-- what was taken of a plate: nothing, or its header and a number of rows
abbrev pub Taken : Scene → ℕ → Type 0
Taken s n = (n ≡ 0) ⊎ ((row : List ℕ) × Reached s row n)
