-- A sprite as a row shows it: which of its lines, and the pixels of that line.
use Rattle.std.specs.Prelude.{ℕ, ◌+◌, ◌-◌, ◌*◌, ◌/◌, ◌%◌, Bool, cond, not, ◌&&◌, List, get_or, take, drop, eqb, leb}
use Rattle.tiles.specs.Tiles.{index_of, mirrored}
use Rattle.oam.specs.declared.Sprite.{Sprite}
use Rattle.sprite_row.specs.SpriteRow.{line_of, size_in}
use Rattle.line_pixels.specs.declared.Layer.TheVariants.{Obj}
use Rattle.line_pixels.specs.declared.Priority.{Priority}
use Rattle.line_pixels.specs.declared.Candidate.{Candidate}
use Rattle.line_pixels.specs.Pixels.{sprite_priority}
use Rattle.sprite_tile.specs.declared.View.{View}

-- interlace doubles the line
abbrev pub doubled : Bool → ℕ → ℕ
doubled interlace n = cond interlace (n * 2) n

-- a vertical flip mirrors it within its square of w lines: the square is the whole of a square sprite, and a half of a tall one
abbrev pub flipped_in : ℕ → Bool → ℕ → ℕ
flipped_in w flip n = n / w * w + mirrored (n % w) w flip

-- then an odd field adds 1, or takes 1 if flipped
abbrev pub moved : Bool → Bool → ℕ → ℕ
moved odd flip n = cond odd (cond flip (n - 1) (n + 1)) n

-- the line of a sprite of width w that the row shows; only under interlace the field matters
unfoldable pub line_in : View → Sprite → ℕ → ℕ
line_in view s w =
    moved (view.obj_interlace && view.field) s.flip_y
    (flipped_in w s.flip_y (doubled view.obj_interlace (line_of view.row s.y)))

-- column and row are added to the tile number's nibbles, each mod 16
abbrev pub tile_number : ℕ → ℕ → ℕ → ℕ
tile_number tile column row = (tile / 16 + row) % 16 * 16 + (tile % 16 + column) % 16

-- words 16 per tile
abbrev pub tile_word : Sprite → ℕ → ℕ → ℕ
tile_word s column row = s.chr_base + tile_number s.tile column row * 16

-- the colour index of a sprite at a column and a line of its picture, which is 4bpp
abbrev pub sprite_index_at : List ℕ → Sprite → ℕ → ℕ → ℕ
sprite_index_at v s column line = index_of v (tile_word s (column / 8) (line / 8)) (column % 8) (line % 8) 2

-- a palette's colours are a part of colour memory, 16 words from 128 + 16 x palette
abbrev pub sprite_colours : {A : Type 0} → List A → ℕ → List A
sprite_colours g n = take 16 (drop (128 + 16 * n) g)

-- a sprite's pixel of index i, and whether it is opaque: index 0 is transparent, and palettes 4 and above have the math mark
abbrev pub sprite_pixel_of : List ℕ → ℕ → Priority → ℕ → Candidate
sprite_pixel_of colours palette z i = record {
  opaque = not (eqb i 0);
  pixel = record { color = get_or colours i 0; z = z; layer = Obj; obj_math = leb 4 palette };
}

-- what a sprite of width w has at place px of a line of its picture, from its left edge on: a horizontal flip mirrors the whole
-- width
abbrev pub pixel_on : List ℕ → List ℕ → Sprite → ℕ → ℕ → ℕ → Candidate
pixel_on v g s w line px =
    sprite_pixel_of (sprite_colours g s.palette) s.palette (sprite_priority s.priority) (sprite_index_at v s (mirrored px w s.flip_x) line)

-- what it shows at place px of the row: the pixel of the line that the row shows
unfoldable pub pixel_in : List ℕ → List ℕ → View → Sprite → ℕ → Candidate
pixel_in v g view s px =
    pixel_on v g s (size_in view.objsel s).width (line_in view s (size_in view.objsel s).width) px
