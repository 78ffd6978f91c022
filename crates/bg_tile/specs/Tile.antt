-- The pixels of a background's tiles.
use Rattle.std.specs.Prelude.{ℕ, ◌+◌, ◌*◌, ◌/◌, ◌%◌, Bool, true, false, cond, not, ◌&&◌, List, get_or, take, drop, eqb}
use Rattle.colour.specs.Colour.{direct_colour}
use Rattle.tiles.specs.declared.BitDepth.{BitDepth}
use Rattle.tiles.specs.declared.BitDepth.TheVariants.{Two, Four, Eight}
use Rattle.tiles.specs.Tiles.{index_of, pairs_of, tile_words, mirrored}
use Rattle.line_pixels.specs.declared.Priority.{Priority}
use Rattle.line_pixels.specs.declared.Candidate.{Candidate}
use Rattle.line_pixels.specs.Pixels.{background_of}
use Rattle.bg_map.specs.declared.BgParams.{BgParams}
use Rattle.bg_map.specs.declared.MapEntry.{MapEntry}
use Rattle.bg_map.specs.Source.{side_of}
use Rattle.bg_map.specs.Map.{entry_at}

-- the place in its tile along one axis: a flip mirrors across the whole tile side
abbrev pub fine_of : ℕ → Bool → Bool → ℕ
fine_of at tile16 flip = mirrored (at % side_of tile16) (side_of tile16) flip

-- character = tile + (fx/8) + 16 x (fy/8), mod 1,024, times 8, 16 or 32 words
abbrev pub character_word : ℕ → ℕ → ℕ → ℕ → ℕ → ℕ
character_word base tile fx fy words = base + (tile + fx / 8 + fy / 8 * 16) % 1024 * words

-- the colour index of pixel (px, py) of the map, under its entry e
unfoldable pub bg_index_at : List ℕ → BgParams → MapEntry → ℕ → ℕ → ℕ
bg_index_at v p e px py =
    index_of v
    (character_word p.tiledata_base e.tile (fine_of px p.tile16 e.flip_x) (fine_of py p.tile16 e.flip_y) (tile_words p.bpp))
    (fine_of px p.tile16 e.flip_x % 8)
    (fine_of py p.tile16 e.flip_y % 8)
    (pairs_of p.bpp)

-- priorities, low/high, by the map entry's bit 13
abbrev pub priority_of : BgParams → Bool → Priority
priority_of p true = p.z_high
priority_of p false = p.z_low

-- the tile's colours are a part of colour memory, 4, 16 or 256 words
abbrev pub colour_count : BitDepth → ℕ
colour_count Two = 4
colour_count Four = 16
colour_count Eight = 256

-- from 4 x palette (plus 32b in mode 0), 16 x palette, or 0
abbrev pub start_of : BitDepth → Bool → ℕ → ℕ → ℕ
start_of Two true b n = n * 4 + 32 * b
start_of Two false b n = n * 4
start_of Four own b n = n * 16
start_of Eight own b n = 0

abbrev pub bg_colours : {A : Type 0} → List A → BgParams → ℕ → List A
bg_colours g p n = take (colour_count p.bpp) (drop (start_of p.bpp p.own_palettes (background_of p.layer) n) g)

abbrev pub is_eight : BitDepth → Bool
is_eight Two = false
is_eight Four = false
is_eight Eight = true

-- the colour of index i among a tile's colours, or direct colour
abbrev pub colour_in : List ℕ → Bool → ℕ → ℕ → ℕ
colour_in colours direct n i = cond direct (direct_colour i n) (get_or colours i 0)

-- a pixel of index i, and whether it is opaque: index 0 is transparent
abbrev pub bg_pixel_of : ℕ → ℕ → Priority → BgParams → Candidate
bg_pixel_of i colour z p = record {
  opaque = not (eqb i 0);
  pixel = record { color = colour; z = z; layer = p.layer; obj_math = false };
}

-- the pixel under entry e, of index i: for 8bpp with cgwsel bit 0, in direct colour
abbrev pub pixel_under : List ℕ → BgParams → Bool → MapEntry → ℕ → Candidate
pixel_under g p direct e i =
    bg_pixel_of i (colour_in (bg_colours g p e.palette) (is_eight p.bpp && direct) e.palette i) (priority_of p e.high) p

-- pixel (px, py) of the map
unfoldable pub pixel_at : List ℕ → List ℕ → BgParams → Bool → ℕ → ℕ → Candidate
pixel_at v g p direct px py = pixel_under g p direct (entry_at v p px py) (bg_index_at v p (entry_at v p px py) px py)
