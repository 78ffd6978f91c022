-- A colour memory whose words are changed by a rule f changes the colours of the sprite line by that rule, and nothing else.
use Rattle.std.specs.Prelude.{ℕ, ◌+◌, ◌*◌, ◌/◌, ◌≡◌, not, get_or, eqb, leb}
use Rattle.std.proofs.Common.{sym, ◌∙◌}
use Rattle.std.proofs.Math.Bool.{cond}
use mathlib.Core.List.{List, [], ◌∷◌, map}
use Rattle.base_lists.specs.theorems.Changed.{part_map}
use Rattle.tiles.specs.Tiles.{mirrored}
use Rattle.oam.specs.declared.Sprite.{Sprite}
use Rattle.sprite_row.specs.SpriteRow.{size_in}
use Rattle.line_pixels.specs.declared.Layer.TheVariants.{Obj}
use Rattle.line_pixels.specs.declared.Priority.{Priority}
use Rattle.line_pixels.specs.Pixels.{none, sprite_priority}
use Rattle.line_pixels.specs.steps.Recoloured.{recoloured, one_changed, none_recoloured, there_recoloured}
use Rattle.sprite_tile.specs.declared.View.{View}
use Rattle.sprite_tile.specs.Tile.{line_in, sprite_index_at, sprite_colours, sprite_pixel_of, pixel_in}
use Rattle.sprite_fetch.specs.Fetch.{Tile, among, across, over, fetched_of, fetched_pixel, line_pixel}

-- a rule that keeps colour 0
module _ (f : ℕ → ℕ) (black : f 0 ≡ 0) (v g : List ℕ) (view : View) where
  -- a sprite's colour of index i
  colour_changed : (n i : ℕ) → get_or (sprite_colours (map f g) n) i 0 ≡ f (get_or (sprite_colours g n) i 0)
  colour_changed n i = (λ j. get_or (sprite_colours (map f g) n) i (sym black j)) ∙ part_map f 16 (128 + 16 * n) g i 0

  -- its pixel of index i
  index_recoloured : (n : ℕ) (z : Priority) (i : ℕ) → sprite_pixel_of (sprite_colours (map f g) n) n z i ≡ recoloured f (sprite_pixel_of (sprite_colours g n) n z i)
  index_recoloured n z i =
      λ j. record {
        opaque = not (eqb i 0);
        pixel = record { color = colour_changed n i j; z = z; layer = Obj; obj_math = leb 4 n };
      }

  -- its pixel at place px of the row
  place_recoloured : (s : Sprite) (px : ℕ) → pixel_in v (map f g) view s px ≡ recoloured f (pixel_in v g view s px)
  unfolding pixel_in
  place_recoloured s px =
      let w = (size_in view.objsel s).width in
      index_recoloured s.palette (sprite_priority s.priority) (sprite_index_at v s (mirrored px w s.flip_x) (line_in view s w))

  -- what of it is fetched
  fetched_recoloured : (s : Sprite) (tiles : List Tile) (x : ℕ) →
      fetched_pixel v (map f g) view s tiles x ≡ recoloured f (fetched_pixel v g view s tiles x)
  unfolding fetched_pixel
  fetched_recoloured s tiles x =
      let t = among tiles (across s x / 8) in
      (λ i. cond t (place_recoloured s (across s x) i) none) ∙ there_recoloured f black t (pixel_in v g view s (across s x))

  -- the sprite line at column x
  pub sprites_recoloured : (limit : ℕ) (chosen : List Sprite) (x : ℕ) →
      line_pixel v (map f g) view limit chosen x ≡ recoloured f (line_pixel v g view limit chosen x)
  unfolding line_pixel
  sprites_recoloured limit [] x = none_recoloured f black
  sprites_recoloured limit (s ∷ later) x =
      let tiles = fetched_of limit view.objsel s later in
      let c = fetched_pixel v g view s tiles x in
      (λ i. over (fetched_recoloured s tiles x i) (sprites_recoloured limit later x i))
      ∙ one_changed (recoloured f) c.opaque c (line_pixel v g view limit later x)
