-- A colour memory whose words are changed by a rule f changes the colours of a background's pixels by that rule, and nothing else.
use Rattle.std.specs.Prelude.{ℕ, ◌≡◌, Bool, true, false, ◌&&◌, List, map, get_or}
use Rattle.std.proofs.Common.{sym, ◌∙◌}
use Rattle.base_lists.specs.theorems.Changed.{part_map}
use Rattle.registers.specs.declared.PPURegisters.{PPURegisters}
use Rattle.registers.specs.Screen as screen
use Rattle.colour.specs.Colour.{direct_colour}
use Rattle.line_pixels.specs.Pixels.{background_of}
use Rattle.line_pixels.specs.steps.Recoloured.{recoloured}
use Rattle.bg_map.specs.declared.BgParams.{BgParams}
use Rattle.bg_map.specs.declared.MapEntry.{MapEntry}
use Rattle.bg_map.specs.Source.{source_column, source_line}
use Rattle.bg_map.specs.Map.{entry_at}
use Rattle.bg_tile.specs.Tile.{bg_index_at, priority_of, colour_count, start_of, bg_colours, is_eight, colour_in, bg_pixel_of, pixel_under, pixel_at}
use Rattle.bg_row.specs.Row.{bg_pixel}

-- a rule that keeps colour 0 and every direct colour
module _ (f : ℕ → ℕ) (black : f 0 ≡ 0) (direct_kept : (i n : ℕ) → f (direct_colour i n) ≡ direct_colour i n) where
  -- a tile's colour, of its palette or direct
  colour_changed : (g : List ℕ) (p : BgParams) (direct : Bool) (n i : ℕ) →
      colour_in (bg_colours (map f g) p n) direct n i ≡ f (colour_in (bg_colours g p n) direct n i)
  colour_changed g p true n i = sym (direct_kept i n)
  colour_changed g p false n i =
      (λ j. get_or (bg_colours (map f g) p n) i (sym black j))
      ∙ part_map f (colour_count p.bpp) (start_of p.bpp p.own_palettes (background_of p.layer) n) g i 0

  -- the pixel under an entry
  under_recoloured : (g : List ℕ) (p : BgParams) (direct : Bool) (e : MapEntry) (i : ℕ) →
      pixel_under (map f g) p direct e i ≡ recoloured f (pixel_under g p direct e i)
  under_recoloured g p direct e i =
      λ j. bg_pixel_of i (colour_changed g p (is_eight p.bpp && direct) e.palette i j) (priority_of p e.high) p

  -- the pixel at column x of row y
  pub background_recoloured : (v g : List ℕ) (r : PPURegisters) (p : BgParams) (y x : ℕ) →
      bg_pixel v (map f g) r p y x ≡ recoloured f (bg_pixel v g r p y x)
  unfolding bg_pixel pixel_at
  background_recoloured v g r p y x =
      let px = source_column r p x in
      let py = source_line r p y in
      let e = entry_at v p px py in
      under_recoloured g p (screen.direct_colour_set r) e (bg_index_at v p e px py)
