-- A layer by its number: a background, the sprites, or none.
use Rattle.std.specs.Prelude.{ℕ, ◌<◌, ◌≤◌, ◌≡◌, refl, Bool, List, ltb, eqb, length}
use Rattle.std.proofs.Common.{sym, ◌∙◌, arith}
use Rattle.std.proofs.Math.Bool.{cond}
use borrow.Author.Tests.{lt-ltb, le-ltb, ne_eqb}
use Rattle.base_lists.specs.theorems.Tab.{by_get_d, length_tab}
use Rattle.line_pixels.specs.declared.LinePixel.{LinePixel}
use Rattle.line_pixels.specs.declared.Candidate.{Candidate}
use Rattle.line_pixels.specs.declared.Lines.{Lines}
use Rattle.line_pixels.specs.Pixels.{no_pixel, none}
use Rattle.line_pixels.specs.theorems.Pixels.{length_backdrop}
use Rattle.line_laying.specs.declared.Shown.{Shown}
use Rattle.line_laying.specs.Laying.{on_main, on_sub, on_screen, lay_line, lay_lines}
use Rattle.sprite_layer.specs.Sprites as sprites
use Rattle.registers.specs.Scene.{Scene}
use Rattle.row_layers.specs.Layers.{bg_shown, bg_at, sprite_at, layer_shown, layer_pixel, start_lines}
use Rattle.row_layers.specs.Numbers.{FullLines}

-- where there is no pixel, a line is left
bare : (shown : ℕ → Bool) (line : List LinePixel) → length line ≡ 256 → lay_line (λ x. on_screen (shown x) none) line ≡ line
bare shown line long = sym (by_get_d 256 (λ x. _) line no_pixel long (λ x h. refl))

-- the backdrops are whole, and what is laid leaves whole lines
pub full_start : (s : Scene) → FullLines (start_lines s)
full_start s = (length_backdrop _, length_backdrop _)

pub full_laid : (shown : Shown) (row : ℕ → Candidate) (l : Lines) → FullLines (lay_lines shown row l)
full_laid shown row l = (length_tab _ 256, length_tab _ 256)

module _ (s : Scene) (k : ℕ) where
  pub shown_low : k < 4 → bg_shown s k ≡ layer_shown s k
  unfolding layer_shown
  shown_low h = λ i. cond (sym (lt-ltb k 4 h) i) (bg_shown s k) (sprites.sprites_shown s.regs)

  pub shown_four : k ≡ 4 → sprites.sprites_shown s.regs ≡ layer_shown s k
  unfolding layer_shown
  shown_four e = λ i. cond (ltb (sym e i) 4) (bg_shown s k) (sprites.sprites_shown s.regs)

module _ (s : Scene) (y k : ℕ) where
  pub pixel_low : k < 4 → bg_at s y k ≡ layer_pixel s y k
  unfolding layer_pixel
  pixel_low h = λ i x. cond (sym (lt-ltb k 4 h) i) (bg_at s y k x) (cond (eqb k 4) (sprite_at s y x) none)

  pub pixel_four : k ≡ 4 → sprite_at s y ≡ layer_pixel s y k
  unfolding layer_pixel
  pixel_four e = λ i x. cond (ltb (sym e i) 4) (bg_at s y k x) (cond (eqb (sym e i) 4) (sprite_at s y x) none)

  pub pixel_none : 5 ≤ k → (λ x. none) ≡ layer_pixel s y k
  unfolding layer_pixel
  pixel_none h =
      let high-number = le-ltb k 4 (omega arith) in
      let not-four = ne_eqb k 4 (λ e. absurd (omega arith)) in
      λ i x. cond (sym high-number i) (bg_at s y k x) (cond (sym not-four i) (sprite_at s y x) none)

  -- so a number above 4 lays nothing
  pub none_laid : 5 ≤ k → (l : Lines) → FullLines l → lay_lines (layer_shown s k) (layer_pixel s y k) l ≡ l
  none_laid h l w =
      (λ i. lay_lines (layer_shown s k) (sym (pixel_none h) i) l)
      ∙ (λ i. record { main = bare (on_main (layer_shown s k)) l.main w.0 i; sub = bare (on_sub (layer_shown s k)) l.sub w.1 i })
