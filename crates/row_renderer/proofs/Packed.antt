-- The colours of a row that is drawn over packed pixels are those of its lines, in their low 16 bits.
use Prim.Native.Nat.{ℕ, ◌<◌}
use mathlib.Core.Path.{◌≡◌, refl, sym, ap, ◌∙◌}
use mathlib.Core.Bool.{Bool, true, false, cond, not, ◌&&◌, ◌||◌}
use mathlib.Core.List.{List, [], ◌∷◌}
use native.Mathlib.Omega.{arith}
use lib.Dec.{lit<}
use lib.ListN.{get_or}
use borrow.Author.Tests.{lt-ltb}
use Rattle.base_lists.specs.Tab.{tab}
use Rattle.base_lists.specs.theorems.Tab.{get_d_tab}
use Rattle.registers.specs.declared.PPURegisters.{PPURegisters}
use Rattle.registers.specs.Bits.{bit_of}
use Rattle.line_window.specs.Window.{masked}
use Rattle.registers_windows.specs.Windows.{bg_window, sprite_window, colour_window}
use Rattle.line_pixels.specs.declared.LinePixel.{LinePixel}
use Rattle.line_pixels.specs.declared.Candidate.{Candidate}
use Rattle.line_pixels.specs.Pixels.{no_pixel, backdrop_of, backdrop_line}
use Rattle.line_pixels.specs.theorems.Pixels.{get_d_backdrop}
use Rattle.line_pixels.specs.steps.Recoloured.{recolour, recoloured_lines}
use Rattle.line_laying.specs.Laying.{shown_at, on_screen, lay_line}
use Rattle.line_laying.specs.Order.{lay_all}
use Rattle.line_laying.specs.steps.Recoloured.{pixel_recoloured}
use Rattle.bg_modes.specs.Modes.{bg_mode_of, params_of}
use Rattle.bg_row.specs.Row.{bg_pixel}
use Rattle.bg_layer.specs.Background as background
use Rattle.sprite_layer.specs.Sprites as sprites
use Rattle.row_blend.specs.Blend.{settings_of, region, colour_of}
use Rattle.row_composite.specs.Composite.{colour_at}
use Rattle.row_composite.proofs.Idle.{asks, asked}
use Rattle.packed_pixels.specs.steps.Packed.{packed, packed_if, held_after, laid_to}
use Rattle.packed_pixels.specs.steps.Laws.{barred_packed, laid_at}
use Rattle.packed_blend.specs.steps.Blended.{blended}
use Rattle.packed_blend.specs.steps.Laws.{low16, blended_is, any_sub}
use Rattle.packed_colours.specs.steps.Screens.{layer_barred, inside_at, screen_at, colour_of_row}
use Rattle.registers.specs.Scene.{Scene}
use Rattle.row_layers.specs.Layers.{layer_shown, layer_pixel}
use Rattle.row_renderer.specs.Renderer.{scene_lines}
use Rattle.row_renderer.specs.steps.Rows.{bg_row, sprite_row, layer_row, layer_rows}

-- a row is drawn where a screen lights its layer, and shows where this screen does
on_first : (p a b m : Bool) (n : ℕ) → cond (not (a && m)) 0 (cond (p && a || p && b) n 0) ≡ cond (not ((p && a) && m)) 0 n
on_first true true true true n = refl
on_first true true true false n = refl
on_first true true false true n = refl
on_first true true false false n = refl
on_first true false b m n = refl
on_first false true b true n = refl
on_first false true b false n = refl
on_first false false b m n = refl

on_second : (p a b m : Bool) (n : ℕ) → cond (not (b && m)) 0 (cond (p && a || p && b) n 0) ≡ cond (not ((p && b) && m)) 0 n
on_second true true true true n = refl
on_second true true true false n = refl
on_second true true false m n = refl
on_second true false true true n = refl
on_second true false true false n = refl
on_second true false false m n = refl
on_second false a true true n = refl
on_second false a true false n = refl
on_second false a false m n = refl

module _ (s : Scene) (y : ℕ) where
  abbrev r : PPURegisters
  r = s.regs

  abbrev present : ℕ → Bool
  present k = (bg_mode_of r.bgmode k).present

  abbrev bg_at : ℕ → ℕ → Candidate
  bg_at k x = bg_pixel s.vram s.cgram r (params_of r k) y x

  abbrev sprite_at : ℕ → Candidate
  sprite_at x = sprites.sprite_pixel s.vram s.cgram s.oam r y x

  -- the candidates on a screen that has these registers
  module _ (lit win : ℕ) where
    abbrev bg_on : ℕ → ℕ → Candidate
    bg_on k x = on_screen (shown_at (present k && bit_of lit k) (bit_of win k) (bg_window r k) x) (bg_at k x)

    abbrev sprite_on : ℕ → Candidate
    sprite_on x = on_screen (shown_at (bit_of lit 4) (bit_of win 4) (sprite_window r) x) (sprite_at x)

    -- a pixel of its line
    module _ (colour x : ℕ) (h : x < 256)
        (bg-seen : (k : ℕ) → k < 4 → cond (layer_barred r lit win k x) 0 (bg_row s y k x) ≡ packed_if (bg_on k x))
        (sprite-seen : cond (layer_barred r lit win 4 x) 0 (sprite_row s y x) ≡ packed_if (sprite_on x)) where
      abbrev barred : List (List Bool)
      barred = tab 5 (λ k. tab 256 (layer_barred r lit win k))

      read : (k : ℕ) → k < 5 →
          cond (get_or (get_or barred k []) x false) 0 (get_or (get_or (layer_rows s y) k []) x 0) ≡ cond (layer_barred r lit win k x) 0 (layer_row s y k x)
      read k b =
          (λ i. cond (get_or (get_d_tab (λ (j : ℕ). tab 256 (layer_barred r lit win j)) 5 k [] b i) x false) 0 (get_or (get_d_tab (λ (j : ℕ). tab 256 (layer_row s y j)) 5 k [] b i) x 0))
          ∙ (λ i. cond (get_d_tab (layer_barred r lit win k) 256 x false h i) 0 (get_d_tab (layer_row s y k) 256 x 0 h i))

      abbrev one : List LinePixel
      one = lay_line (bg_on 0) (backdrop_line colour)

      abbrev two : List LinePixel
      two = lay_line (bg_on 1) one

      abbrev three : List LinePixel
      three = lay_line (bg_on 2) two

      abbrev four : List LinePixel
      four = lay_line (bg_on 3) three

      line_at : screen_at (layer_rows s y) (packed (backdrop_of colour)) r lit win x ≡ packed (get_or (lay_line sprite_on four) x no_pixel)
      unfolding screen_at laid_to
      line_at =
          let back = packed (backdrop_of colour) in
          let first = (λ i. held_after back ((read 0 (lit< tt) ∙ bg-seen 0 (lit< tt)) i)) ∙ laid_at (bg_on 0) (backdrop_line colour) x back h (sym (ap packed (get_d_backdrop colour x h))) in
          let second = (λ i. held_after (first i) ((read 1 (lit< tt) ∙ bg-seen 1 (lit< tt)) i)) ∙ laid_at (bg_on 1) one x _ h refl in
          let third = (λ i. held_after (second i) ((read 2 (lit< tt) ∙ bg-seen 2 (lit< tt)) i)) ∙ laid_at (bg_on 2) two x _ h refl in
          let fourth = (λ i. held_after (third i) ((read 3 (lit< tt) ∙ bg-seen 3 (lit< tt)) i)) ∙ laid_at (bg_on 3) three x _ h refl in
          (λ i. held_after (fourth i) ((read 4 (lit< tt) ∙ sprite-seen) i)) ∙ laid_at sprite_on four x _ h refl

  module _ (x : ℕ) (h : x < 256) where
    main_at :
        screen_at (layer_rows s y)
        (packed (backdrop_of (get_or s.cgram 0 0))) r r.tm r.tmw x
        ≡ packed (get_or (scene_lines s y).main x no_pixel)
    unfolding lay_all layer_shown layer_pixel background.bg_shown_by sprites.sprites_shown params_of
    main_at =
        line_at r.tm r.tmw (get_or s.cgram 0 0) x h
        (λ k b. let out = bit_of r.tmw k && masked (bg_window r k) x in
        (λ i. cond (not (shown_at (bit_of r.tm k) (bit_of r.tmw k) (cond (lt-ltb k 4 b i) (bg_window r k) (sprite_window r)) x)) 0 (bg_row s y k x))
        ∙ (on_first (present k) (bit_of r.tm k) (bit_of r.ts k) (not out) (packed_if (bg_at k x))
        ∙ barred_packed ((present k && bit_of r.tm k) && not out) (bg_at k x)))
        (let out = bit_of r.tmw 4 && masked (sprite_window r) x in
        on_first true (bit_of r.tm 4) (bit_of r.ts 4) (not out) (packed_if (sprite_at x))
        ∙ barred_packed (bit_of r.tm 4 && not out) (sprite_at x))

    sub_at :
        screen_at (layer_rows s y)
        (packed (backdrop_of r.coldata)) r r.ts r.tsw x
        ≡ packed (get_or (scene_lines s y).sub x no_pixel)
    unfolding lay_all layer_shown layer_pixel background.bg_shown_by sprites.sprites_shown params_of
    sub_at =
        line_at r.ts r.tsw r.coldata x h
        (λ k b. let out = bit_of r.tsw k && masked (bg_window r k) x in
        (λ i. cond (not (shown_at (bit_of r.ts k) (bit_of r.tsw k) (cond (lt-ltb k 4 b i) (bg_window r k) (sprite_window r)) x)) 0 (bg_row s y k x))
        ∙ (on_second (present k) (bit_of r.tm k) (bit_of r.ts k) (not out) (packed_if (bg_at k x))
        ∙ barred_packed ((present k && bit_of r.ts k) && not out) (bg_at k x)))
        (let out = bit_of r.tsw 4 && masked (sprite_window r) x in
        on_second true (bit_of r.tm 4) (bit_of r.ts 4) (not out) (packed_if (sprite_at x))
        ∙ barred_packed (bit_of r.ts 4 && not out) (sprite_at x))

    abbrev over_pixel : LinePixel
    over_pixel = get_or (scene_lines s y).main x no_pixel

    abbrev under_pixel : LinePixel
    under_pixel = get_or (scene_lines s y).sub x no_pixel

    -- where colour math does not take the sub pixel, its line is not laid
    by_use : (u keep allowed : Bool) → bit_of r.cgwsel 1 ≡ u →
        blended (settings_of r) (packed over_pixel) (cond u (packed under_pixel) 0) keep allowed
        ≡ blended (settings_of r) (packed over_pixel) (packed under_pixel) keep allowed
    by_use true keep allowed e = refl
    by_use false keep allowed e = any_sub (settings_of r) (packed over_pixel) 0 (packed under_pixel) keep allowed e

    pub colour_is :
        colour_of_row (layer_rows s y)
        (packed (backdrop_of (get_or s.cgram 0 0))) r x
        ≡ colour_at r (recoloured_lines low16 (scene_lines s y)) x
    unfolding colour_of_row colour_at
    colour_is =
        let t = settings_of r in
        let inside = inside_at r t x in
        let keep = region t.clip_mode inside in
        let allowed = region t.math_region inside in
        let lines = scene_lines s y in
        let low : t.layers < 64 = omega arith in
        (λ i. blended t (main_at i) (cond (bit_of r.cgwsel 1) (sub_at i) 0) keep allowed)
        ∙ (by_use (bit_of r.cgwsel 1) keep allowed refl
        ∙ (blended_is t low over_pixel under_pixel inside
        ∙ (asked t (recolour low16 over_pixel) (recolour low16 under_pixel) (asks t) (masked (colour_window r) x) refl
        ∙ sym
        (λ i. colour_of t (pixel_recoloured low16 refl lines.main x i) (pixel_recoloured low16 refl lines.sub x i) (masked (colour_window r) x)))))

-- a list of five by a rule
pub five : {A : Type 0} (f : ℕ → A) → tab 5 f ≡ f 0 ∷ f 1 ∷ f 2 ∷ f 3 ∷ f 4 ∷ []
unfolding tab
five f = refl
