-- A background's map.
use Rattle.std.specs.Prelude.{ℕ, ◌+◌, ◌*◌, ◌/◌, ◌%◌, Bool, true, false, List}
use Rattle.registers.specs.Bits.{bit_of}
use Rattle.tiles.specs.Tiles.{vram_word}
use Rattle.bg_map.specs.declared.BgParams.{BgParams}
use Rattle.bg_map.specs.declared.MapEntry.{MapEntry}
use Rattle.bg_map.specs.Source.{side_of}

-- screen = (row/32) x (2 if wide, else 1) + column/32
abbrev pub screens_wide : Bool → ℕ
screens_wide true = 2
screens_wide false = 1

abbrev pub screen_of : Bool → ℕ → ℕ → ℕ
screen_of wide col row = row / 32 * screens_wide wide + col / 32

-- map word: base + screen x 1,024 + (row mod 32) x 32 + column mod 32; it is read mod 32,768
abbrev pub map_word : ℕ → Bool → ℕ → ℕ → ℕ
map_word base wide col row = base + screen_of wide col row * 1024 + row % 32 * 32 + col % 32

-- entry: tile bits 0-9, palette 10-12, priority 13, flips 14 (x), 15 (y)
abbrev pub entry_of : ℕ → MapEntry
entry_of w = record {
  tile = w % 1024;
  palette = w / 1024 % 8;
  high = bit_of w 13;
  flip_x = bit_of w 14;
  flip_y = bit_of w 15;
}

-- the entry of the tile that holds pixel (px, py) of the map
unfoldable pub entry_at : List ℕ → BgParams → ℕ → ℕ → MapEntry
entry_at v p px py =
    entry_of (vram_word v (map_word p.tilemap_base p.w64 (px / side_of p.tile16) (py / side_of p.tile16)))
