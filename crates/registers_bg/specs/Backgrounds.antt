-- What is read of a background b, 0 to 3.
use Rattle.std.specs.Prelude.{ℕ, ◌+◌, ◌-◌, ◌*◌, ◌/◌, ◌%◌, Bool, cond, List, get_or, eqb}
use Rattle.registers.specs.declared.PPURegisters.{PPURegisters}
use Rattle.registers_bg.specs.declared.MapSize.{MapSize}
use Rattle.registers_bg.specs.declared.Scroll.{Scroll}
use Rattle.registers.specs.Bits.{bit_of, nibble_of}

-- bgsc bits 2-6 times 1,024
abbrev pub map_base : PPURegisters → ℕ → ℕ
map_base r b = get_or r.bgsc b 0 / 4 % 32 * 1024

-- the low three bits of its nibble times 4,096
abbrev pub tile_base : PPURegisters → ℕ → ℕ
tile_base r b = nibble_of r.bg12nba r.bg34nba b % 8 * 4096

-- bgsc bits 0 and 1
abbrev pub map_size : PPURegisters → ℕ → MapSize
map_size r b = record { w64 = bit_of (get_or r.bgsc b 0) 0; h64 = bit_of (get_or r.bgsc b 0) 1 }

-- background b's of four numbers, of which BG1's is held apart
abbrev pub of_four : ℕ → List ℕ → ℕ → ℕ
of_four first others b = cond (eqb b 0) first (get_or others (b - 1) 0)

abbrev pub scroll_of : PPURegisters → ℕ → Scroll
scroll_of r b = record { x = of_four r.bg1hofs r.bghofs b; y = of_four r.bg1vofs r.bgvofs b }

-- tile side 16: bgmode bit 4 + b
abbrev pub tile16_of : PPURegisters → ℕ → Bool
tile16_of r b = bit_of r.bgmode (4 + b)
