-- The packed pixels of a character's row are its pixels, packed.
use Prim.Native.Nat.{ℕ, ◌+◌, ◌%◌, ◌<◌}
use mathlib.Core.Path.{◌≡◌, refl, sym, ◌∙◌}
use mathlib.Core.Bool.{Bool, true, false, cond, not}
use mathlib.Core.List.{List}
use native.Mathlib.Omega.{arith}
use lib.ListN.{get_or}
use lib.Dec.{eqb}
use Rattle.colour.specs.Colour.{direct_colour}
use Rattle.colour.specs.theorems.Bit15.{direct_clear}
use Rattle.line_pixels.specs.declared.Layer.{Layer}
use Rattle.line_pixels.specs.declared.Layer.TheVariants.{Backdrop, Bg1, Bg2, Bg3, Bg4, Obj}
use Rattle.line_pixels.specs.Pixels.{background_of}
use Rattle.packed_pixels.specs.steps.Packed.{code_of, head_of, packed, packed_if}
use Rattle.base_lists.specs.Tab.{tab}
use Rattle.base_lists.specs.theorems.Tab.{tab_ext}
use Rattle.tiles.specs.Tiles.{index_of, pairs_of, mirrored}
use Rattle.bg_map.specs.declared.BgParams.{BgParams}
use Rattle.tiles_row.specs.declared.TileRow.{TileRow}
use Rattle.tiles_row.specs.steps.Rows.{row_index}
use Rattle.bg_tile.specs.steps.Characters.{cell_in}
use Rattle.tiles_eight.specs.steps.Shades.{shade, shade_direct}

-- a background's code is its number
code_is : (l : Layer) → background_of l < 4 → background_of l ≡ code_of l false
code_is Backdrop h = absurd (omega arith)
code_is Bg1 h = refl
code_is Bg2 h = refl
code_is Bg3 h = refl
code_is Bg4 h = refl
code_is Obj h = absurd (omega arith)

module _ (v colours : List ℕ) (p : BgParams) (t : TileRow) (k : ℕ) {b head i : ℕ} (low : background_of p.layer < 4)
    (code : b ≡ background_of p.layer) (heads : head ≡ head_of b t.z) (index : i ≡ row_index v p.bpp t k) where
  over_index : head ≡ head_of (code_of p.layer false) t.z
  over_index = heads ∙ (λ j. head_of ((code ∙ code_is p.layer low) j) t.z)

  -- of a tile's colours
  pub shade_is : {direct : Bool} → direct ≡ false → shade colours head i ≡ packed_if (cell_in v colours p direct t k)
  unfolding shade packed_if packed cell_in
  shade_is d =
      λ j.
      cond (not (eqb (index j) 0))
      (over_index j + cond (sym d j) (direct_colour (index j) t.palette) (get_or colours (index j) 0) % 65536)
      0

  -- direct
  pub direct_is : {direct : Bool} → direct ≡ true → shade_direct t.palette head i ≡ packed_if (cell_in v colours p direct t k)
  unfolding shade_direct packed_if packed cell_in
  direct_is d =
      let whole : direct_colour i t.palette ≡ direct_colour i t.palette % 65536 = omega (arith, direct_clear i t.palette) in
      (λ j. cond (not (eqb i 0)) (head + whole j) 0)
      ∙ (λ j.
      cond (not (eqb (index j) 0))
      (over_index j + cond (sym d j) (direct_colour (index j) t.palette) (get_or colours (index j) 0) % 65536)
      0)

-- The same of all eight, from the indexes over the depth's plane pairs.
module _ (v colours : List ℕ) (p : BgParams) (t : TileRow) {n b head : ℕ} (low : background_of p.layer < 4)
    (code : b ≡ background_of p.layer) (heads : head ≡ head_of b t.z) (pairs : n ≡ pairs_of p.bpp) where
  read : (k : ℕ) → index_of v t.base (mirrored k 8 t.flip_x) t.row n ≡ row_index v p.bpp t k
  read k = λ i. index_of v t.base (mirrored k 8 t.flip_x) t.row (pairs i)

  pub eight_shaded : {direct : Bool} {held out : List ℕ} → held ≡ colours → direct ≡ false →
      out ≡ tab 8 (λ k. shade held head (index_of v t.base (mirrored k 8 t.flip_x) t.row n)) →
      out ≡ tab 8 (λ k. packed_if (cell_in v colours p direct t k))
  eight_shaded g d e =
      e
      ∙ tab_ext 8 _ _
      (λ k h. (λ i. shade (g i) head (index_of v t.base (mirrored k 8 t.flip_x) t.row n)) ∙ shade_is v colours p t k low code heads (read k) d)

  pub eight_direct : {direct : Bool} {out : List ℕ} → direct ≡ true →
      out ≡ tab 8 (λ k. shade_direct t.palette head (index_of v t.base (mirrored k 8 t.flip_x) t.row n)) →
      out ≡ tab 8 (λ k. packed_if (cell_in v colours p direct t k))
  eight_direct d e = e ∙ tab_ext 8 _ _ (λ k h. direct_is v colours p t k low code heads (read k) d)
