-- The fetched tiles of a row, and the sprite line. The limit of the fetch and the list of the chosen sprites are parameters.
use Rattle.std.specs.Prelude.{ℕ, ◌+◌, ◌-◌, ◌/◌, ◌%◌, Bool, false, cond, ◌||◌, List, [], ◌∷◌, ◌++◌, map, length, take, eqb}
use Rattle.base_lists.specs.Tab.{tab}
use Rattle.base_lists.specs.Keep.{keep}
use Rattle.oam.specs.declared.Sprite.{Sprite}
use Rattle.sprite_row.specs.SpriteRow.{x9, size_in, counts}
use Rattle.line_pixels.specs.declared.Candidate.{Candidate}
use Rattle.line_pixels.specs.Pixels.{none}
use Rattle.sprite_tile.specs.declared.View.{View}
use Rattle.sprite_tile.specs.Tile.{pixel_in}

-- a tile of a chosen sprite, by its place from the left
pub record Tile : Type 0 where
  pub sprite : Sprite
  pub place : ℕ

abbrev pub tile : Sprite → ℕ → Tile
tile s t = record { sprite = s; place = t }

-- the places of a sprite's counting tiles, from left to right
unfoldable pub counting_places : ℕ → Sprite → List ℕ
counting_places objsel s = keep (counts (x9 s)) (tab ((size_in objsel s).width / 8) (λ t. t))

abbrev pub counting_tiles : ℕ → Sprite → List Tile
counting_tiles objsel s = map (tile s) (counting_places objsel s)

-- the order of the fetch: the chosen sprites from the last to the first, the tiles of each from left to right
unfoldable pub fetch_order : ℕ → List Sprite → List Tile
fetch_order objsel [] = []
fetch_order objsel (s ∷ later) = fetch_order objsel later ++ counting_tiles objsel s

-- the fetched tiles are the first of these, up to the limit
abbrev pub fetched : ℕ → ℕ → List Sprite → List Tile
fetched limit objsel chosen = take limit (fetch_order objsel chosen)

-- of these, the tiles of a sprite after which `later` were chosen: the first of its counting tiles, as many as theirs leave room
-- for
unfoldable pub fetched_of : ℕ → ℕ → Sprite → List Sprite → List Tile
fetched_of limit objsel s later = take (limit - length (fetch_order objsel later)) (counting_tiles objsel s)

-- is one of these tiles at place t?
unfoldable pub among : List Tile → ℕ → Bool
among [] t = false
among (p ∷ l) t = eqb p.place t || among l t

-- how far right of a sprite's left edge column x stands, modulo 512
abbrev pub across : Sprite → ℕ → ℕ
across s x = (x + 512 - x9 s) % 512

-- the first, where it is opaque, and otherwise the second
abbrev pub over : Candidate → Candidate → Candidate
over c d = cond c.opaque c d

module _ (v g : List ℕ) (view : View) where
  -- what a sprite has at column x, if these of its tiles are fetched: its pixel there, where that stands in one of them
  unfoldable pub fetched_pixel : Sprite → List Tile → ℕ → Candidate
  fetched_pixel s tiles x = cond (among tiles (across s x / 8)) (pixel_in v g view s (across s x)) none

  -- the sprite line at column x: the pixel of the first chosen sprite that has a fetched opaque pixel there, or none
  unfoldable pub line_pixel : ℕ → List Sprite → ℕ → Candidate
  line_pixel limit [] x = none
  line_pixel limit (s ∷ later) x =
      over (fetched_pixel s (fetched_of limit view.objsel s later) x) (line_pixel limit later x)
