-- A row of the map's tiles: what is known of the map for a whole row of the screen. Nothing here is needed to know what
-- the map is; Map.antt says that.
use Rattle.std.specs.Prelude.{ℕ, ◌+◌, ◌*◌, ◌/◌, ◌%◌, ◌≡◌, Bool, true, false, List}
use Rattle.std.proofs.Common.{ap, arith}
use Rattle.tiles.specs.Tiles.{vram_word}
use Rattle.bg_map.specs.declared.BgParams.{BgParams}
use Rattle.bg_map.specs.declared.MapEntry.{MapEntry}
use Rattle.bg_map.specs.Source.{side_of}
use Rattle.bg_map.specs.Map.{screens_wide, map_word, entry_of, entry_at}

-- its first map word
abbrev pub row_start : ℕ → Bool → ℕ → ℕ
row_start base wide row = base + row / 32 * screens_wide wide * 1024 + row % 32 * 32

unfoldable pub map_row_of : BgParams → ℕ → ℕ
map_row_of p py = row_start p.tilemap_base p.w64 (py / side_of p.tile16)

-- the entry of the tile that holds column px, where the row starts at `start`
unfoldable pub entry_in : List ℕ → ℕ → Bool → ℕ → MapEntry
entry_in v start tile16 px = entry_of (vram_word v (start + px / side_of tile16 / 32 * 1024 + px / side_of tile16 % 32))

-- from there on it is the map's
by_row : (base : ℕ) (wide : Bool) (col row : ℕ) → row_start base wide row + col / 32 * 1024 + col % 32 ≡ map_word base wide col row
by_row base true col row = omega arith
by_row base false col row = omega arith

pub entry_in_row : (v : List ℕ) (p : BgParams) (px py : ℕ) → entry_in v (map_row_of p py) p.tile16 px ≡ entry_at v p px py
unfolding map_row_of entry_in entry_at
entry_in_row v p px py =
    ap (λ (a : ℕ). entry_of (vram_word v a))
    (by_row p.tilemap_base p.w64 (px / side_of p.tile16) (py / side_of p.tile16))
