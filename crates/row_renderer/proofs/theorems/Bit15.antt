-- Bit 15 of a colour never changes a row: two colour memories and two coldata that differ in bit 15 at most give the same row.
use Rattle.std.specs.Prelude.{ℕ, ◌≡◌, List, [], ◌∷◌, get_or, ltb, eqb}
use Rattle.std.proofs.Math.Path.{refl}
use Rattle.std.proofs.Common.{sym, ◌∙◌, arith}
use Rattle.std.proofs.Math.Bool.{cond}
use Rattle.base_lists.specs.theorems.Each.{get_d_map}
use Rattle.registers_windows.specs.Windows.{window_of}
use Rattle.colour.specs.Colour.{direct_colour}
use Rattle.colour.specs.Bit15.{SameColour}
use Rattle.colour.specs.theorems.Bit15.{direct_clear}
use Rattle.line_pixels.specs.Pixels.{none, backdrop_line}
use Rattle.line_pixels.specs.steps.Recoloured.{recoloured, recoloured_lines, one_changed, there_recoloured}
use Rattle.line_laying.specs.Order.{lay_all}
use Rattle.line_laying.specs.steps.Recoloured.{backdrop_recoloured, laid_recoloured}
use Rattle.bg_modes.specs.Modes.{params_of}
use Rattle.bg_map.specs.Source.{source_column, source_line}
use Rattle.bg_row.specs.Row.{bg_pixel}
use Rattle.bg_row.specs.steps.Recoloured.{background_recoloured}
use Rattle.bg_layer.specs.Background as background
use Rattle.sprite_choice.specs.Choice.{tile_limit}
use Rattle.sprite_fetch.specs.steps.Recoloured.{sprites_recoloured}
use Rattle.sprite_layer.specs.Sprites as sprites
use Rattle.sprite_layer.specs.Sprites.{view_of, chosen_sprites, sprite_pixel}
use Rattle.registers.specs.Scene.{Scene}
use Rattle.row_layers.specs.Layers.{bg_at, sprite_at, layer_shown, layer_pixel, start_lines}
use Rattle.row_composite.specs.Composite.{row_bytes}
use Rattle.row_composite.specs.steps.Bit15.{row_blind}
use Rattle.row_renderer.specs.Renderer.{scene_lines, scene_row}
use Rattle.row_renderer.specs.Bit15.{low15, plain}

-- the colour is the same but for bit 15
same : (c : ℕ) → SameColour (low15 c) c
same c = omega arith

-- direct colour has it clear already
direct_kept : (i n : ℕ) → low15 (direct_colour i n) ≡ direct_colour i n
direct_kept i n = omega (arith, direct_clear i n)

module _ (s : Scene) where
  -- the layers are shown where they were
  shown_kept : (k : ℕ) → layer_shown (plain s) k ≡ layer_shown s k
  unfolding layer_shown background.bg_shown_by sprites.sprites_shown params_of window_of
  shown_kept k = refl

  -- a background's pixels are recoloured
  bg_plain : (y k x : ℕ) → bg_at (plain s) y k x ≡ recoloured low15 (bg_at s y k x)
  unfolding bg_pixel source_column source_line params_of
  bg_plain y k x = background_recoloured low15 refl direct_kept s.vram s.cgram s.regs (params_of s.regs k) y x

  -- the sprites' are
  sprite_plain : (y x : ℕ) → sprite_at (plain s) y x ≡ recoloured low15 (sprite_at s y x)
  unfolding sprite_pixel chosen_sprites
  sprite_plain y x =
      sprites_recoloured low15 refl s.vram s.cgram (view_of s.regs y) tile_limit (chosen_sprites s.oam s.regs y) x

  -- so each layer's are
  pixel_plain : (y k x : ℕ) → layer_pixel (plain s) y k x ≡ recoloured low15 (layer_pixel s y k x)
  unfolding layer_pixel
  pixel_plain y k x =
      (λ i. cond (ltb k 4) (bg_plain y k x i) (cond (eqb k 4) (sprite_plain y x i) none))
      ∙ ((λ i. cond (ltb k 4) (recoloured low15 (bg_at s y k x)) (there_recoloured low15 refl (eqb k 4) (sprite_at s y x) i))
      ∙ one_changed (recoloured low15) (ltb k 4) (bg_at s y k x) (cond (eqb k 4) (sprite_at s y x) none))

  -- so are the lines before any layer is laid
  start_plain : start_lines (plain s) ≡ recoloured_lines low15 (start_lines s)
  start_plain =
      let main = (λ i. backdrop_line (get_d_map low15 s.cgram 0 0 i)) ∙ backdrop_recoloured low15 (get_or s.cgram 0 0) in
      λ i. record { main = main i; sub = backdrop_recoloured low15 s.regs.coldata i }

  -- and after all five are
  lines_plain : (y : ℕ) → scene_lines (plain s) y ≡ recoloured_lines low15 (scene_lines s y)
  lines_plain y =
      let ks : List ℕ = 0 ∷ 1 ∷ 2 ∷ 3 ∷ 4 ∷ [] in
      (λ i. lay_all (λ k. shown_kept k i) (λ k x. pixel_plain y k x i) ks (start_plain i))
      ∙ laid_recoloured low15 refl (layer_shown s) (layer_pixel s y) ks (start_lines s)

  -- a scene and the scene with bit 15 cleared give the same row
  row_plain : (y : ℕ) → scene_row (plain s) y ≡ scene_row s y
  unfolding scene_row
  row_plain y = (λ i. row_bytes (plain s).regs (lines_plain y i)) ∙ row_blind low15 refl same s.regs (scene_lines s y)

-- Two scenes that are equal once bit 15 of every colour is cleared give the same rows.
pub bit_15_never_shows : (s t : Scene) → plain s ≡ plain t → (y : ℕ) → scene_row s y ≡ scene_row t y
bit_15_never_shows s t e y = sym (row_plain s y) ∙ ((λ i. scene_row (e i) y) ∙ row_plain t y)
