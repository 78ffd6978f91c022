-- A tile's colours lie in colour memory, its characters in their range; and the eight pixels of a character's row share their
-- map entry, so that one row of a character gives them all.
use Prim.Native.Nat.{ℕ, ◌+◌, ◌*◌, ◌/◌, ◌%◌, ◌^◌, ◌<◌, ◌≤◌}
use mathlib.Core.Path.{◌≡◌, refl, sym, ap, ◌∙◌}
use mathlib.Core.Bool.{Bool, true, false, ◌&&◌}
use mathlib.Core.List.{List}
use native.Mathlib.Omega.{arith}
use native.Mathlib.Nat.{mul-le-mul}
use lib.Dec.{lit≤}
use lib.ListN.{length, length-take, length-drop}
use Rattle.tiles.specs.declared.BitDepth.{BitDepth}
use Rattle.tiles.specs.declared.BitDepth.TheVariants.{Two, Four, Eight}
use Rattle.tiles.specs.Tiles.{vram_word, index_of, pairs_of, tile_words, mirrored}
use Rattle.line_pixels.specs.Pixels.{background_of}
use Rattle.bg_map.specs.declared.BgParams.{BgParams}
use Rattle.bg_map.specs.declared.MapEntry.{MapEntry}
use Rattle.bg_map.specs.Source.{side_of}
use Rattle.bg_map.specs.Map.{map_word, entry_of, entry_at}
use Rattle.bg_tile.specs.Tile.{fine_of, bg_index_at, colour_count, start_of, bg_colours, is_eight, pixel_under, pixel_at}
use Rattle.tiles_row.specs.steps.Rows.{row_index}
use Rattle.bg_tile.specs.steps.Characters.{character_row_under, character_row_at, cell_in}

pub character_small : (n words : ℕ) → words ≤ 32 → n % 1024 * words ≤ 1023 * 32
character_small n words h = let k : n % 1024 ≤ 1023 = omega arith in mul-le-mul k h

pub words_small : (d : BitDepth) → tile_words d ≤ 32
words_small Two = lit≤ tt
words_small Four = lit≤ tt
words_small Eight = lit≤ tt

pub colours_power : (d : BitDepth) → 4 ^ pairs_of d ≡ colour_count d
colours_power Two = refl
colours_power Four = refl
colours_power Eight = refl

pub palette_fits : (d : BitDepth) (own : Bool) (b n : ℕ) → b < 4 → n < 8 → start_of d own b n + colour_count d ≤ 256
palette_fits Two true b n h k = omega arith
palette_fits Two false b n h k = omega arith
palette_fits Four own b n h k = omega arith
palette_fits Eight own b n h k = omega arith

pub palette_length : (g : List ℕ) (p : BgParams) (n : ℕ) → length g ≡ 256 → background_of p.layer < 4 → n < 8 →
    length (bg_colours g p n) ≡ colour_count p.bpp
palette_length g p n e h k =
    simp (length-take, length-drop)
    (omega (arith, palette_fits p.bpp p.own_palettes (background_of p.layer) n h k))

-- eight pixels from a multiple of 8 on lie in one tile, and in one character of it
module _ (px k : ℕ) (even : px % 8 ≡ 0) (h : k < 8) where
  same_tile : (tile16 : Bool) → (px + k) / side_of tile16 ≡ px / side_of tile16
  same_tile true = omega arith
  same_tile false = omega arith

  same_half : (tile16 flip : Bool) → fine_of (px + k) tile16 flip / 8 ≡ fine_of px tile16 flip / 8
  same_half true true = omega arith
  same_half true false = omega arith
  same_half false true = omega arith
  same_half false false = omega arith

  column_in : (tile16 flip : Bool) → fine_of (px + k) tile16 flip % 8 ≡ mirrored k 8 flip
  column_in true true = omega arith
  column_in true false = omega arith
  column_in false true = omega arith
  column_in false false = omega arith

  module _ (v : List ℕ) (p : BgParams) (py : ℕ) where
    same_entry : entry_at v p px py ≡ entry_at v p (px + k) py
    unfolding entry_at
    same_entry =
        sym
        (ap (λ (c : ℕ). entry_of (vram_word v (map_word p.tilemap_base p.w64 c (py / side_of p.tile16))))
        (same_tile p.tile16))

    same_index : (e : MapEntry) → row_index v p.bpp (character_row_under p e px py) k ≡ bg_index_at v p e (px + k) py
    unfolding bg_index_at
    same_index e =
        sym
        (λ i. index_of v
        (p.tiledata_base
        + (e.tile + same_half p.tile16 e.flip_x i + fine_of py p.tile16 e.flip_y / 8 * 16) % 1024
        * tile_words p.bpp)
        (column_in p.tile16 e.flip_x i)
        (fine_of py p.tile16 e.flip_y % 8)
        (pairs_of p.bpp))

    -- pixel k of the character's row at px is the pixel at px + k
    pub cell_is_pixel : (g : List ℕ) (direct : Bool) →
        cell_in v (bg_colours g p (character_row_at v p px py).palette) p (is_eight p.bpp && direct) (character_row_at v p px py) k
        ≡ pixel_at v g p direct (px + k) py
    unfolding cell_in character_row_at pixel_at
    cell_is_pixel g direct =
        ap (pixel_under g p direct (entry_at v p px py)) (same_index (entry_at v p px py))
        ∙ (λ i. pixel_under g p direct (same_entry i) (bg_index_at v p (same_entry i) (px + k) py))
