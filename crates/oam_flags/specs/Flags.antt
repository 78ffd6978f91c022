-- The kept flags.
use Rattle.std.specs.Prelude.{Bool, false, ◌||◌}
use Rattle.oam_flags.specs.declared.OamFlags.{OamFlags}

-- the old ones or the new
abbrev pub kept_flags : OamFlags → Bool → Bool → OamFlags
kept_flags old time range = record { time_over = old.time_over || time; range_over = old.range_over || range }

-- a clear sets both false
abbrev pub clear_flags : OamFlags
clear_flags = record { time_over = false; range_over = false }
