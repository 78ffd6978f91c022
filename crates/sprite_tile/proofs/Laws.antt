-- A mirrored line, and the tiles of a mirrored width.
use Prim.Native.Nat.{ℕ, ◌+◌, ◌*◌, ◌/◌, ◌%◌, ◌<◌, ◌≤◌}
use mathlib.Core.Path.{◌≡◌, sym, ap, ◌∙◌}
use mathlib.Core.Bool.{Bool, true, false, ◌&&◌, false≢true}
use mathlib.Core.List.{List}
use native.Mathlib.Omega.{arith}
use native.Mathlib.Nat.{mod-add-div', mod-lt, mul_assoc}
use lib.ListN.{length, length-take, length-drop}
use Rattle.tiles.specs.declared.BitDepth.TheVariants.{Four}
use Rattle.tiles.specs.Tiles.{index_of, mirrored}
use Rattle.oam.specs.declared.Sprite.{Sprite}
use Rattle.sprite_tile.specs.Tile.{doubled, flipped_in, tile_word, sprite_index_at, sprite_colours}
use Rattle.tiles_row.specs.steps.Rows.{row_index}
use Rattle.sprite_tile.specs.steps.Placed.{placed_of}

-- the first line of a line's square
pub square_start : (w n : ℕ) → n / w * w ≤ n
square_start w n = omega (arith, mod-add-div' n w)

-- an even line that is mirrored in an even width is not the first
even_rest : (v n : ℕ) → 0 < v → n * 2 % (v * 2) + 1 < v * 2
even_rest v n h =
    let q = n * 2 / (v * 2) in
    let e : n * 2 % (v * 2) + q * v * 2 ≡ n * 2 = ap (λ (p : ℕ). n * 2 % (v * 2) + p) (mul_assoc q v 2) ∙ mod-add-div' (n * 2) (v * 2) in
    let l : n * 2 % (v * 2) < v * 2 = mod-lt (n * 2) (omega arith) in
    omega arith

pub even_flipped : (w n : ℕ) → 0 < w → w % 8 ≡ 0 → 0 < flipped_in w true (doubled true n)
even_flipped w n h e =
    let d : w ≡ w / 2 * 2 = omega arith in
    let l : n * 2 % w + 1 < w = rw d (even_rest (w / 2) n (omega arith)) in
    omega arith

-- so an odd field has a line to take 1 from
pub can_step : (interlace field flip : Bool) (w n : ℕ) → 0 < w → w % 8 ≡ 0 → interlace && field ≡ true → flip ≡ true →
    0 < flipped_in w flip (doubled interlace n)
can_step true field true w n h e o f = even_flipped w n h e
can_step true field false w n h e o f = absurd (false≢true f)
can_step false field flip w n h e o f = absurd (false≢true o)

pub colours_length : (g : List ℕ) (n : ℕ) → length g ≡ 256 → n < 8 → length (sprite_colours g n) ≡ 16
colours_length g n e h = simp (length-take, length-drop) (omega arith)

-- place t * 8 + k of a width, mirrored: its tile, and its place in the tile
module _ (w t k : ℕ) (whole : w % 8 ≡ 0) (in_width : t < w / 8) (h : k < 8) where
  mirrored_tile : (flip : Bool) → mirrored (t * 8 + k) w flip / 8 ≡ mirrored t (w / 8) flip
  mirrored_tile true = omega arith
  mirrored_tile false = omega arith

  mirrored_place : (flip : Bool) → mirrored (t * 8 + k) w flip % 8 ≡ mirrored k 8 flip
  mirrored_place true = omega arith
  mirrored_place false = omega arith

  -- so pixel k of tile t is what the sprite has there
  pub placed_index : (v : List ℕ) (s : Sprite) (line : ℕ) →
      row_index v Four (placed_of s w line t).tile k ≡ sprite_index_at v s (mirrored (t * 8 + k) w s.flip_x) line
  unfolding placed_of
  placed_index v s line =
      sym (λ i. index_of v (tile_word s (mirrored_tile s.flip_x i) (line / 8)) (mirrored_place s.flip_x i) (line % 8) 2)
