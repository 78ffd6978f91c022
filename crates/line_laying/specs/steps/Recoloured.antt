-- Layers and backdrops in other colours leave the same lines in other colours: laying does not look at a colour.
use Rattle.std.specs.Prelude.{ℕ, ◌≡◌, Bool, ◌&&◌, get_or}
use Rattle.std.proofs.Math.Path.{refl, sym}
use Rattle.std.proofs.Common.{◌∙◌}
use mathlib.Core.List.{List, [], ◌∷◌, map}
use Rattle.base_lists.specs.Tab.{tab}
use Rattle.base_lists.specs.theorems.Each.{get_d_map}
use Rattle.base_lists.specs.theorems.Changed.{map_tab, map_replicate}
use Rattle.line_pixels.specs.declared.LinePixel.{LinePixel}
use Rattle.line_pixels.specs.declared.Candidate.{Candidate}
use Rattle.line_pixels.specs.declared.Lines.{Lines}
use Rattle.line_pixels.specs.Pixels.{no_pixel, deposited, backdrop_of, backdrop_line}
use Rattle.line_pixels.specs.steps.Recoloured.{recolour, recoloured, recoloured_lines, there_recoloured, deposited_recoloured}
use Rattle.line_laying.specs.declared.Shown.{Shown}
use Rattle.line_laying.specs.Laying.{on_main, on_sub, on_screen, lay_line, lay_lines}
use Rattle.line_laying.specs.Order.{lay_all}

module _ (f : ℕ → ℕ) where
  -- a line of the backdrop in another colour
  pub backdrop_recoloured : (colour : ℕ) → backdrop_line (f colour) ≡ map (recolour f) (backdrop_line colour)
  unfolding backdrop_line
  backdrop_recoloured colour = sym (map_replicate (recolour f) 256 (backdrop_of colour))

  -- a rule that keeps colour 0
  module _ (black : f 0 ≡ 0) where
    -- a pixel of a recoloured line
    pub pixel_recoloured : (line : List LinePixel) (x : ℕ) → get_or (map (recolour f) line) x no_pixel ≡ recolour f (get_or line x no_pixel)
    pixel_recoloured line x =
        (λ i. get_or (map (recolour f) line) x (backdrop_of (sym black i))) ∙ get_d_map (recolour f) line x no_pixel

    -- a line after a layer is laid over it
    line_recoloured : (shown : ℕ → Bool) (row : ℕ → Candidate) (line : List LinePixel) →
        lay_line (λ x. on_screen (shown x) (recoloured f (row x))) (map (recolour f) line)
        ≡ map (recolour f) (lay_line (λ x. on_screen (shown x) (row x)) line)
    line_recoloured shown row line =
        (λ i. tab 256 (λ x. deposited (pixel_recoloured line x i) (there_recoloured f black ((row x).opaque && shown x) (row x) i)))
        ∙ ((λ i. tab 256 (λ x. deposited_recoloured f (get_or line x no_pixel) (on_screen (shown x) (row x)) i))
        ∙ sym (map_tab (recolour f) 256 (λ x. deposited (get_or line x no_pixel) (on_screen (shown x) (row x)))))

    module _ {S : Type 0} (shown : S → Shown) (row : S → ℕ → Candidate) where
      -- both lines after any layers are laid over them
      pub laid_recoloured : (ks : List S) (lines : Lines) →
          lay_all shown (λ k x. recoloured f (row k x)) ks (recoloured_lines f lines) ≡ recoloured_lines f (lay_all shown row ks lines)
      unfolding lay_all
      laid_recoloured [] lines = refl
      laid_recoloured (k ∷ ks) lines =
          (λ i.
          lay_all shown (λ j x. recoloured f (row j x)) ks
          (record {
            main = line_recoloured (on_main (shown k)) (row k) lines.main i;
            sub = line_recoloured (on_sub (shown k)) (row k) lines.sub i;
          }))
          ∙ laid_recoloured ks (lay_lines (shown k) (row k) lines)
