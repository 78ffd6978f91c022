-- An unlit background's own register bits never change a row: two scenes that differ only in an unlit background's map, tile
-- base, scroll, tile side, mosaic and window settings give the same row.
use Rattle.std.specs.Prelude.{ℕ, zero, suc, ◌+◌, ◌-◌, ◌*◌, ◌/◌, ◌%◌, ◌<◌, ◌≡◌, Bool, true, false, ◌&&◌, eqb, ◌+ℤ◌, ◌-ℤ◌, take}
use Rattle.std.proofs.Math.Path.{refl, sym, ap}
use Rattle.std.proofs.Common.{subst, ◌∙◌, arith, eqb-true}
use Rattle.std.proofs.Math.Bool.{cond}
use mathlib.Core.List.{List, [], ◌∷◌, map}
use Rattle.std.proofs.Math.IntN.{pos}
use Rattle.std.proofs.Math.ListN.{length, get_or}
use Rattle.std.proofs.lemmas.Bool.{eqb-false}
use Rattle.base_lists.specs.Tab.{tab}
use Rattle.base_lists.specs.theorems.Tab.{length_tab}
use Rattle.base_lists.specs.Each.{Each}
use Rattle.base_signed.specs.Remainder.{remainder}
use Rattle.registers.specs.declared.PPURegisters.{PPURegisters}
use Rattle.registers.specs.Bits.{bit_of}
use Rattle.line_window.specs.declared.Window.{Window}
use Rattle.line_window.specs.Window.{masked}
use Rattle.registers_windows.specs.Windows.{window_of, bg_window}
use Rattle.line_pixels.specs.declared.Candidate.{Candidate}
use Rattle.line_pixels.specs.declared.Lines.{Lines}
use Rattle.line_pixels.specs.Pixels.{no_pixel, priority, layer_of, background_of, deposited, backdrop_lines}
use Rattle.line_pixels.specs.theorems.Pixels.{length_backdrop}
use Rattle.line_laying.specs.declared.Shown.{Shown}
use Rattle.line_laying.specs.Laying.{candidates_of, lay_lines}
use Rattle.line_laying.specs.theorems.Unlit.{unlit_lays_nothing}
use Rattle.line_laying.specs.Order.{lay_all}
use Rattle.bg_map.specs.Source.{extent_of, source_column, source_line}
use Rattle.bg_tile.specs.Tile.{pixel_at}
use Rattle.bg_row.specs.Row.{bg_pixel}
use Rattle.bg_layer.specs.Background as background
use Rattle.oam.specs.Sprites.{sprite_of}
use Rattle.sprite_choice.specs.Choice.{sprite_limit, tile_limit, search_order, found}
use Rattle.sprite_fetch.specs.Fetch.{line_pixel}
use Rattle.sprite_layer.specs.Sprites as sprites
use Rattle.bg_modes.specs.Modes.{mode0, mode1, mode3, lacks, mode_rows, bg_mode_of, params_of}
use Rattle.row_blend.specs.Blend.{colour_of}
use Rattle.row_composite.specs.Composite.{colour_at, row_byte_at, black_row, row_bytes}
use Rattle.row_layers.specs.Layers.{layer_shown, layer_pixel, start_lines}
use Rattle.row_layers.specs.theorems.Numbers.{shown_low, pixel_low, shown_four, pixel_four}
use Rattle.row_renderer.specs.Renderer.{scene_lines, scene_row}
use Rattle.registers.specs.Scene.{Scene, scene}
use Rattle.row_renderer.specs.Unlit.{own_of, Shared, shared_of, lit_by, Unlit}

-- the number of a background's layer is its own
number_back : (k : ℕ) → k < 4 → background_of (layer_of k) ≡ k
number_back zero h = refl
number_back (suc zero) h = refl
number_back (suc (suc zero)) h = refl
number_back (suc (suc (suc zero))) h = refl
number_back (suc (suc (suc (suc k)))) h = absurd (omega arith)

-- a window of such registers
abbrev window_by : Shared → ℕ → ℕ → Window
window_by s select logic = record {
  left1 = s.wh0;
  right1 = s.wh1;
  left2 = s.wh2;
  right2 = s.wh3;
  invert1 = bit_of select 0;
  enable1 = bit_of select 1;
  invert2 = bit_of select 2;
  enable2 = bit_of select 3;
  logic = logic;
}

module _ (r q : PPURegisters) (e : shared_of r ≡ shared_of q) where
  -- the same mode
  same_mode : (k : ℕ) → bg_mode_of r.bgmode k ≡ bg_mode_of q.bgmode k
  unfolding bg_mode_of mode_rows
  same_mode k =
      λ i. get_or (cond (eqb (e i).mode 0) mode0 (cond (eqb (e i).mode 3) mode3 (mode1 (cond (e i).lifted 13 5)))) k lacks

  -- a background with the same bits of its own is the same
  module _ (k : ℕ) (o : own_of r k ≡ own_of q k) where
    same_params : params_of r k ≡ params_of q k
    unfolding params_of
    same_params =
        λ i. record {
          tilemap_base = (o i).map / 4 % 32 * 1024;
          tiledata_base = (o i).tiles % 8 * 4096;
          scroll_x = (o i).across;
          scroll_y = (o i).down;
          bpp = (same_mode k i).bpp;
          own_palettes = (same_mode k i).own_palettes;
          w64 = bit_of (o i).map 0;
          h64 = bit_of (o i).map 1;
          tile16 = (o i).side;
          mosaic = (o i).mosaic;
          z_low = priority (same_mode k i).low;
          z_high = priority (same_mode k i).high;
          layer = layer_of k;
          to_main = (same_mode k i).present && bit_of (e i).tm k;
          to_sub = (same_mode k i).present && bit_of (e i).ts k;
        }

    same_pixel : (v g : List ℕ) (y x : ℕ) → bg_pixel v g r (params_of r k) y x ≡ bg_pixel v g q (params_of q k) y x
    unfolding bg_pixel source_column source_line
    same_pixel v g y x =
        λ i.
        let p = same_params i in
        pixel_at v g p (bit_of (e i).cgwsel 0)
        ((x - x % cond p.mosaic ((e i).size + 1) 1 + p.scroll_x) % extent_of p.w64 p.tile16)
        (remainder
        ((pos (y + 1) -ℤ cond p.mosaic (pos ((e i).size + 1) -ℤ pos (e i).counter) (pos 0)) +ℤ pos p.scroll_y)
        (extent_of p.h64 p.tile16))

    same_shown : k < 4 → background.bg_shown_by r (params_of r k) ≡ background.bg_shown_by q (params_of q k)
    unfolding background.bg_shown_by params_of window_of
    same_shown h =
        let n = number_back k h in
        let plain : PPURegisters → Shown = λ (t : PPURegisters).
        record {
          to_main = (params_of t k).to_main;
          to_sub = (params_of t k).to_sub;
          win_main = bit_of t.tmw k;
          win_sub = bit_of t.tsw k;
          window = bg_window t k;
        } in
        let by_number : (t : PPURegisters) → background.bg_shown_by t (params_of t k) ≡ plain t = λ t.
        λ i. record {
          to_main = (params_of t k).to_main;
          to_sub = (params_of t k).to_sub;
          win_main = bit_of t.tmw (n i);
          win_sub = bit_of t.tsw (n i);
          window = bg_window t (n i);
        } in
        let same : plain r ≡ plain q =
        λ i. record {
          to_main = (same_params i).to_main;
          to_sub = (same_params i).to_sub;
          win_main = (o i).«bars_main»;
          win_sub = (o i).«bars_sub»;
          window = window_by (e i) (o i).select (o i).logic;
        } in
        by_number r ∙ (same ∙ sym (by_number q))

  -- the sprites are the same
  same_sprites : (v g oam : List ℕ) (y x : ℕ) → sprites.sprite_pixel v g oam r y x ≡ sprites.sprite_pixel v g oam q y x
  unfolding sprites.sprite_pixel sprites.chosen_sprites
  same_sprites v g oam y x =
      λ i.
      line_pixel v g
      (record { objsel = (e i).objsel; row = y; obj_interlace = bit_of (e i).setini 1; field = (e i).field })
      tile_limit
      (map (λ (n : ℕ). sprite_of oam n (e i).objsel)
      (take sprite_limit (found oam y (e i).objsel (bit_of (e i).setini 1) (search_order (e i).oamadd))))
      x

  same_sprites_shown : sprites.sprites_shown r ≡ sprites.sprites_shown q
  unfolding sprites.sprites_shown window_of
  same_sprites_shown =
      λ i. record {
        to_main = bit_of (e i).tm 4;
        to_sub = bit_of (e i).ts 4;
        win_main = (e i).«bars_main»;
        win_sub = (e i).«bars_sub»;
        window = window_by (e i) ((e i).wobjsel % 16) ((e i).wobjlog % 4);
      }

  -- and the same lines make the same row
  same_bytes : {l m : Lines} → l ≡ m → row_bytes r l ≡ row_bytes q m
  unfolding row_bytes colour_at window_of
  same_bytes d =
      λ i.
      let s = e i in
      cond (bit_of s.inidisp 7) black_row
      (tab 768
      (row_byte_at
      (λ x.
      colour_of
      (record {
        clip_mode = s.cgwsel / 64;
        math_region = s.cgwsel / 16 % 4;
        use_subscreen = bit_of s.cgwsel 1;
        layers = s.cgadsub % 64;
        half = bit_of s.cgadsub 6;
        subtract = bit_of s.cgadsub 7;
        fixed = s.coldata;
      })
      (get_or (d i).main x no_pixel)
      (get_or (d i).sub x no_pixel)
      (masked (window_by s (s.wobjsel / 16) (s.wobjlog / 4 % 4)) x))
      (s.inidisp % 16)))

-- Two sets of layers: each is the same in both, or lit in neither.
abbrev Dark : Shown → Type 0
Dark s = (s.to_main ≡ false) × (s.to_sub ≡ false)

module _ (shown shown' : ℕ → Shown) (pixel pixel' : ℕ → ℕ → Candidate) where
  data Alike (k : ℕ) : Type 0 where
    same : shown k ≡ shown' k → pixel k ≡ pixel' k → Alike k
    dark : Dark (shown k) → Dark (shown' k) → Alike k

  -- Then they leave the same lines.
  alike_lines : (ks : List ℕ) → Each Alike ks → (l : Lines) → length l.main ≡ 256 → length l.sub ≡ 256 →
      lay_all shown pixel ks l ≡ lay_all shown' pixel' ks l
  unfolding lay_all
  alike_lines [] a l m s = refl
  alike_lines (k ∷ ks) a l m s = step a.0 (alike_lines ks a.1)
    where
      step : Alike k →
          ((n : Lines) → length n.main ≡ 256 → length n.sub ≡ 256 → lay_all shown pixel ks n ≡ lay_all shown' pixel' ks n) →
          lay_all shown pixel ks (lay_lines (shown k) (pixel k) l) ≡ lay_all shown' pixel' ks (lay_lines (shown' k) (pixel' k) l)
      step (same e d) later =
          later (lay_lines (shown k) (pixel k) l)
          (length_tab (λ x. deposited (get_or l.main x no_pixel) (candidates_of (shown k) x (pixel k x)).main) 256)
          (length_tab (λ x. deposited (get_or l.sub x no_pixel) (candidates_of (shown k) x (pixel k x)).sub) 256)
          ∙ (λ i. lay_all shown' pixel' ks (lay_lines (e i) (d i) l))
      step (dark d f) later =
          ap (lay_all shown pixel ks) (unlit_lays_nothing (shown k) (pixel k) l d.0 d.1 m s)
          ∙ (later l m s ∙ ap (lay_all shown' pixel' ks) (sym (unlit_lays_nothing (shown' k) (pixel' k) l f.0 f.1 m s)))

module _ (b : ℕ) (r q : PPURegisters) (shared : shared_of r ≡ shared_of q)
    (others : (k : ℕ) → k < 4 → (k ≡ b → ⊥) → own_of r k ≡ own_of q k) (unlit : Unlit r b) (v g oam : List ℕ) (y : ℕ) where
  abbrev one : Scene
  one = scene r v g oam

  abbrev two : Scene
  two = scene q v g oam

  abbrev AlikeHere : ℕ → Type 0
  AlikeHere k = Alike (layer_shown one) (layer_shown two) (layer_pixel one y) (layer_pixel two y) k

  -- the unlit one
  off : (t : PPURegisters) (k : ℕ) → Unlit t k → Dark (background.bg_shown_by t (params_of t k))
  unfolding background.bg_shown_by params_of
  off t k u = u

  alike : (k : ℕ) → k < 4 → AlikeHere k
  alike k h = by_test (eqb k b) refl
    where
      by_test : (t : Bool) → eqb k b ≡ t → AlikeHere k
      by_test true d =
          let u : Unlit r k = subst (Unlit r) (sym (eqb-true k b d)) unlit in
          let main : lit_by r r.tm k ≡ lit_by q q.tm k = λ i. (same_mode r q shared k i).present && bit_of (shared i).tm k in
          let sub : lit_by r r.ts k ≡ lit_by q q.ts k = λ i. (same_mode r q shared k i).present && bit_of (shared i).ts k in
          dark
          (subst Dark (shown_low one k h) (off r k u))
          (subst Dark (shown_low two k h) (off q k (sym main ∙ u.0, sym sub ∙ u.1)))
      by_test false d =
          let o = others k h (eqb-false k b d) in
          same
          (sym (shown_low one k h) ∙ (same_shown r q shared k o h ∙ shown_low two k h))
          (sym (pixel_low one y k h) ∙ ((λ i x. same_pixel r q shared k o v g y x i) ∙ pixel_low two y k h))

  alike_sprites : AlikeHere 4
  alike_sprites =
      same
      (sym (shown_four one 4 refl) ∙ (same_sprites_shown r q shared ∙ shown_four two 4 refl))
      (sym (pixel_four one y 4 refl) ∙ ((λ i x. same_sprites r q shared v g oam y x i) ∙ pixel_four two y 4 refl))

  same_lines : scene_lines one y ≡ scene_lines two y
  same_lines =
      alike_lines (layer_shown one) (layer_shown two) (layer_pixel one y) (layer_pixel two y) (0 ∷ 1 ∷ 2 ∷ 3 ∷ 4 ∷ [])
      (alike 0 (omega arith), (alike 1 (omega arith), (alike 2 (omega arith), (alike 3 (omega arith), (alike_sprites, tt)))))
      (start_lines one) (length_backdrop (get_or g 0 0)) (length_backdrop r.coldata)
      ∙ (λ i. lay_all (layer_shown two) (layer_pixel two y) (0 ∷ 1 ∷ 2 ∷ 3 ∷ 4 ∷ []) (backdrop_lines (get_or g 0 0) (shared i).coldata))

  -- Where background b is lit on neither screen, its own bits never change the row.
  pub unlit_never_shows : scene_row (scene r v g oam) y ≡ scene_row (scene q v g oam) y
  unfolding scene_row
  unlit_never_shows = same_bytes r q shared same_lines
