-- Sprites that have an opaque pixel at a column, and sprites with other priority bits.
use Rattle.std.specs.Prelude.{ℕ, ◌≡◌, false, List, [], ◌∷◌, ◌++◌, map}
use Rattle.oam.specs.declared.Sprite.{Sprite}
use Rattle.line_pixels.specs.declared.Candidate.{Candidate}
use Rattle.line_pixels.specs.Pixels.{priority}
use Rattle.sprite_tile.specs.declared.View.{View}
use Rattle.sprite_fetch.specs.Fetch.{tile, fetched_of, fetched_pixel}

module _ (v g : List ℕ) (view : View) (limit x : ℕ) where
  -- what a sprite has at column x, `later` chosen after it: its fetched pixel there
  abbrev pub has_at : Sprite → List Sprite → Candidate
  has_at s later = fetched_pixel v g view s (fetched_of limit view.objsel s later) x

  -- no sprite of a list has an opaque one, `later` chosen after them
  abbrev pub Clear : List Sprite → List Sprite → Type 0
  Clear [] later = Unit
  Clear (s ∷ l) later = ((has_at s (l ++ later)).opaque ≡ false) × Clear l later

-- a sprite with other priority bits
abbrev pub with_priority : ℕ → Sprite → Sprite
with_priority p s = record {
  x = s.x;
  y = s.y;
  tile = s.tile;
  chr_base = s.chr_base;
  name_table = s.name_table;
  palette = s.palette;
  priority = p;
  flip_x = s.flip_x;
  flip_y = s.flip_y;
  large = s.large;
}

-- a candidate but for its priority
abbrev pub but_priority : Candidate → Candidate
but_priority c = record {
  opaque = c.opaque;
  pixel = record { color = c.pixel.color; z = priority 0; layer = c.pixel.layer; obj_math = c.pixel.obj_math };
}

module _ (p : Sprite → ℕ) where
  -- every sprite with the priority bits that p gives it
  abbrev pub given : List Sprite → List Sprite
  given l = map (λ s. with_priority (p s) s) l
