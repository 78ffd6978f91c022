-- Which regions ask for the window.
use Rattle.std.specs.Prelude.{ℕ, Bool, ◌||◌, eqb}

-- the regions that ask for the window
abbrev pub by_window : ℕ → Bool
by_window n = eqb n 1 || eqb n 2
