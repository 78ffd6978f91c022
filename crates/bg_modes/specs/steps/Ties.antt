-- The table of modes, row by row.
use Rattle.std.specs.Prelude.{List, [], ◌∷◌}
use Rattle.bg_modes.specs.declared.BgMode.{BgMode}
use Rattle.bg_modes.specs.Modes.{mode0, mode1, mode3}

-- the table of modes, mode 1 without bgmode bit 3 and with it
abbrev pub mode_table : List (List BgMode)
mode_table = mode0 ∷ mode1 5 ∷ mode1 13 ∷ mode3 ∷ []
