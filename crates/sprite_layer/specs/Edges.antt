-- The edges of the rules on sprites, both sides of each: of every sprite that has the columns, the size and the flip named.
use Rattle.std.specs.Prelude.{ℕ, ◌/◌, ◌%◌, ◌<◌, ◌≡◌, true, false, List, [], ◌∷◌, length}
use Rattle.oam.specs.declared.Sprite.{Sprite}
use Rattle.oam.specs.Sprites.{sized, chr_base_of}
use Rattle.sprite_row.specs.SpriteRow.{x9, size_in, line_of, meets_row, passed_over, tiles_of}
use Rattle.line_pixels.specs.Pixels.{none}
use Rattle.sprite_tile.specs.declared.View.{View}
use Rattle.sprite_tile.specs.Tile.{pixel_on, pixel_in}
use Rattle.sprite_fetch.specs.Fetch.{Tile, tile, fetched, fetched_of, among, across, fetched_pixel}

-- a sprite that is 16x32 by objsel, flipped vertically, without interlace
pub record TallFlipped (view : View) (s : Sprite) : Type 0 where
  pub size : size_in view.objsel s ≡ sized 16 32
  pub plain : view.obj_interlace ≡ false
  pub flipped : s.flip_y ≡ true

-- the row meets the sprite, and shows its line n: where a tile is fetched, its columns have that line's pixels
pub record ShowsLine (view : View) (s : Sprite) (n : ℕ) : Type 0 where
  pub meets : meets_row view.row view.objsel view.obj_interlace s ≡ true
  pub pixels : (v g : List ℕ) (tiles : List Tile) (x : ℕ) → among tiles (across s x / 8) ≡ true →
      fetched_pixel v g view s tiles x ≡ pixel_on v g s (size_in view.objsel s).width n (across s x)

-- the edges
pub record SpriteEdges : Type 0 where
  -- x9 504, width 8: passed over
  pub passed_504 : (s : Sprite) (objsel : ℕ) → x9 s ≡ 504 → (size_in objsel s).width ≡ 8 → passed_over objsel s ≡ true
  -- 505: one tile, one visible column
  pub met_505 : (s : Sprite) (objsel : ℕ) → x9 s ≡ 505 → (size_in objsel s).width ≡ 8 → passed_over objsel s ≡ false
  pub tiles_505 : (s : Sprite) (objsel : ℕ) → x9 s ≡ 505 → (size_in objsel s).width ≡ 8 → tiles_of objsel s ≡ 1
  pub fetched_505 : (limit objsel : ℕ) (s : Sprite) (later : List Sprite) → x9 s ≡ 505 → (size_in objsel s).width ≡ 8 →
      length (fetched limit objsel later) < limit → fetched_of limit objsel s later ≡ tile s 0 ∷ []
  pub column_505 : (v g : List ℕ) (view : View) (limit : ℕ) (s : Sprite) (later : List Sprite) → x9 s ≡ 505 →
      (size_in view.objsel s).width ≡ 8 → length (fetched limit view.objsel later) < limit →
      fetched_pixel v g view s (fetched_of limit view.objsel s later) 0 ≡ pixel_in v g view s 7
  pub others_505 : (v g : List ℕ) (view : View) (limit : ℕ) (s : Sprite) (later : List Sprite) (x : ℕ) → x9 s ≡ 505 →
      (size_in view.objsel s).width ≡ 8 → 0 < x → x < 256 →
      fetched_pixel v g view s (fetched_of limit view.objsel s later) x ≡ none
  -- x9 256, width 64: 8 tiles, no pixel
  pub tiles_256 : (s : Sprite) (objsel : ℕ) → x9 s ≡ 256 → (size_in objsel s).width ≡ 64 → tiles_of objsel s ≡ 8
  pub pixels_256 : (v g : List ℕ) (view : View) (limit : ℕ) (s : Sprite) (later : List Sprite) (x : ℕ) → x9 s ≡ 256 →
      (size_in view.objsel s).width ≡ 64 → x < 256 → fetched_pixel v g view s (fetched_of limit view.objsel s later) x ≡ none
  -- x9 500, width 64: 7 tiles
  pub tiles_500 : (s : Sprite) (objsel : ℕ) → x9 s ≡ 500 → (size_in objsel s).width ≡ 64 → tiles_of objsel s ≡ 7
  -- top 250, height 16: row 2 is sprite line 8; row 10 misses
  pub line_2 : (s : Sprite) → s.y ≡ 250 → line_of 2 s.y ≡ 8
  pub shown_2 : (view : View) (s : Sprite) → view.row ≡ 2 → view.obj_interlace ≡ false → s.y ≡ 250 →
      (size_in view.objsel s).height ≡ 16 → s.flip_y ≡ false → ShowsLine view s 8
  pub row_2 : (s : Sprite) (objsel : ℕ) → s.y ≡ 250 → (size_in objsel s).height ≡ 16 → meets_row 2 objsel false s ≡ true
  pub row_10 : (s : Sprite) (objsel : ℕ) → s.y ≡ 250 → (size_in objsel s).height ≡ 16 → meets_row 10 objsel false s ≡ false
  -- tall 16x32 flipped: line 0 is 15, line 16 is 31
  pub tall_0 : (view : View) (s : Sprite) → TallFlipped view s → line_of view.row s.y ≡ 0 → ShowsLine view s 15
  pub tall_16 : (view : View) (s : Sprite) → TallFlipped view s → line_of view.row s.y ≡ 16 → ShowsLine view s 31
  -- objsel low bits 0x1B, table 1: base 0x2000
  pub base_1_b : (objsel : ℕ) → objsel % 32 ≡ 0x1B → chr_base_of objsel 1 ≡ 0x2000
