-- How the code draws the fetched tiles: one over the other, in the order of the fetch. Nothing here is needed to know what the
-- sprite line shows; Fetch.antt says that.
use Rattle.std.specs.Prelude.{ℕ, ◌+◌, ◌-◌, ◌%◌, ◌<◌, Bool, false, cond, not, ◌&&◌, List, [], ◌∷◌, map, length, get_or, take, ltb, eqb}
use Rattle.base_lists.specs.Tab.{tab}
use Rattle.base_lists.specs.Places.{places}
use Rattle.oam.specs.declared.Sprite.{Sprite}
use Rattle.sprite_row.specs.SpriteRow.{size_in}
use Rattle.line_pixels.specs.declared.Candidate.{Candidate}
use Rattle.line_pixels.specs.Pixels.{priority, none}
use Rattle.tiles.specs.declared.BitDepth.TheVariants.{Four}
use Rattle.tiles_row.specs.steps.Rows.{row_index}
use Rattle.sprite_tile.specs.declared.View.{View}
use Rattle.sprite_tile.specs.declared.PlacedRow.{PlacedRow}
use Rattle.sprite_tile.specs.Tile.{line_in, sprite_colours, sprite_pixel_of}
use Rattle.sprite_tile.specs.steps.Placed.{PlacedSound, placed_of}
use Rattle.sprite_choice.specs.declared.VisibleSprite.{VisibleSprite}
use Rattle.sprite_choice.specs.Choice.{blank_place}
use Rattle.sprite_fetch.specs.declared.Fetched.{Fetched}
use Rattle.sprite_fetch.specs.Fetch.{Tile}

-- a tile as the row shows it
abbrev pub placed_in : View → Tile → PlacedRow
placed_in view p =
    placed_of p.sprite (size_in view.objsel p.sprite).width (line_in view p.sprite (size_in view.objsel p.sprite).width) p.place

-- what stands in a place that holds no tile
abbrev pub blank_row : PlacedRow
blank_row = record { tile_x = 0; tile = record { base = 0; row = 0; flip_x = false; palette = 0; z = priority 0 } }

-- each of the first n has its fields in their ranges
abbrev pub AllSound : ℕ → List PlacedRow → Type 0
AllSound n l = (i : ℕ) → i < n → PlacedSound (get_or l i blank_row)

-- and each of the first n sprites its palette
abbrev pub AllFair : ℕ → List VisibleSprite → Type 0
AllFair n l = (k : ℕ) → k < n → (get_or l k blank_place).sprite.palette < 8

-- the first n of an array's sprites
abbrev pub sprites_of : ℕ → List VisibleSprite → List Sprite
sprites_of n l = map (λ (p : VisibleSprite). p.sprite) (take n l)

-- a list of tiles in its 34 places
unfoldable pub fetched_list : View → List Tile → Fetched
fetched_list view l = record { rows = places 34 blank_row (map (placed_in view) l); count = length l }

-- how far right of a tile's left edge column x stands, modulo 512
abbrev pub offset_in : PlacedRow → ℕ → ℕ
offset_in s x = (x + 512 - s.tile_x) % 512

module _ (v g : List ℕ) where
  -- does column x hold one of the tile's first k pixels, an opaque one?
  abbrev pub covers_to : PlacedRow → ℕ → ℕ → Bool
  covers_to s k x = ltb (offset_in s x) k && not (eqb (row_index v Four s.tile (offset_in s x)) 0)

  -- what column x holds after the tile's first k pixels are drawn over h
  unfoldable pub drawn_to : PlacedRow → ℕ → ℕ → Candidate → Candidate
  drawn_to s k x h =
      cond (covers_to s k x)
      (sprite_pixel_of (sprite_colours g s.tile.palette) s.tile.palette s.tile.z (row_index v Four s.tile (offset_in s x)))
      h

  -- after tiles are drawn, one over the other
  unfoldable pub drawn_all : List PlacedRow → ℕ → Candidate → Candidate
  drawn_all [] x h = h
  drawn_all (s ∷ l) x h = drawn_all l x (drawn_to s 8 x h)

  -- the line that they leave
  abbrev pub drawn_line : List PlacedRow → List Candidate
  drawn_line l = tab 256 (λ x. drawn_all l x none)
