-- The priorities of each layer of a mode.
use Rattle.std.specs.Prelude.{ℕ, Bool, true, false, List, [], ◌∷◌, ◌++◌, map}
use Rattle.bg_modes.specs.declared.BgMode.{BgMode}

-- the priorities of a background, and of the sprites
abbrev pub priorities : Bool → ℕ → ℕ → List ℕ
priorities true low high = low ∷ high ∷ []
priorities false low high = []

abbrev pub priorities_of : BgMode → List ℕ
priorities_of m = priorities m.present m.low m.high

abbrev pub sprite_priorities : List ℕ
sprite_priorities = 3 ∷ 6 ∷ 9 ∷ 12 ∷ []

-- those of the five layers of a mode, by their numbers
abbrev pub layer_priorities : List BgMode → List (List ℕ)
layer_priorities rows = map priorities_of rows ++ (sprite_priorities ∷ [])
