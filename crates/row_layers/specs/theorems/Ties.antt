-- No two candidates at a pixel tie, in any mode: each has a priority of its own layer's, and no two layers share one.
use Rattle.std.specs.Prelude.{ℕ, zero, suc, ◌+◌, ◌*◌, ◌/◌, ◌%◌, ◌<◌, ◌≤◌, ◌≡◌, refl, Bool, cond, ◌&&◌, ◌||◌, ltb, eqb}
use Rattle.std.proofs.Math.Path.{sym}
use Rattle.std.proofs.Common.{ap, subst, ◌∙◌, arith, ltb-true, ltb-false, eqb-true, eq-eqb}
use Rattle.std.proofs.Math.Bool.{true, false, and-eq-true_iff}
use Rattle.std.proofs.lemmas.Bool.{false≢true, eqb-false}
use mathlib.Core.List.{List, [], ◌∷◌, map}
use Rattle.std.proofs.Math.ListN.{length, get_or, get_or-append}
use Rattle.std.proofs.lemmas.List.{length-map, get_or_at}
use Rattle.base_lists.specs.theorems.Each.{get_d_map}
use Rattle.base_lists.specs.Apart.{holds}
use Rattle.base_lists.specs.theorems.Apart.{one_place}
use Rattle.registers.specs.Bits.{bit_of}
use Rattle.oam.specs.declared.Sprite.{Sprite}
use Rattle.line_pixels.specs.declared.Candidate.{Candidate}
use Rattle.line_pixels.specs.Pixels.{none}
use Rattle.line_laying.specs.declared.Shown.{Shown}
use Rattle.line_laying.specs.Laying.{on_main, on_sub, on_screen}
use Rattle.line_laying.specs.Order.{Has, nearness, at, NoTies, main_row, sub_row}
use Rattle.bg_map.specs.declared.BgParams.{BgParams}
use Rattle.bg_map.specs.Source.{source_column, source_line}
use Rattle.bg_map.specs.Map.{entry_at}
use Rattle.bg_tile.specs.Tile.{priority_of, pixel_at}
use Rattle.bg_row.specs.Row.{bg_pixel}
use Rattle.bg_layer.specs.Background as background
use Rattle.sprite_choice.specs.Choice.{tile_limit}
use Rattle.sprite_tile.specs.declared.View.{View}
use Rattle.sprite_tile.specs.Tile.{pixel_in}
use Rattle.sprite_fetch.specs.Fetch.{Tile, among, across, fetched_of, fetched_pixel, line_pixel, over}
use Rattle.sprite_layer.specs.Sprites as sprites
use Rattle.bg_modes.specs.Modes.{lacks, mode_rows, bg_mode_of, params_of}
use Rattle.bg_modes.specs.Ties.{priorities, priorities_of, sprite_priorities, layer_priorities}
use Rattle.bg_modes.proofs.theorems.Ties.{four_rows, no_shared_priority}
use Rattle.registers.specs.Scene.{Scene}
use Rattle.row_layers.specs.Layers.{bg_shown, bg_at, sprite_at, layer_shown, layer_pixel}
use Rattle.row_layers.specs.theorems.Numbers.{shown_low, pixel_low, pixel_four, pixel_none}

-- a number is equal to itself
same : (n : ℕ) → eqb n n ≡ true
same n = eq-eqb n n refl

-- a background's pixel has its low priority or its high one
one_of : (p : BgParams) (high : Bool) → holds (p.z_low.0 ∷ p.z_high.0 ∷ []) (priority_of p high).0 ≡ true
unfolding holds
one_of p true = by_first (eqb p.z_high.0 p.z_low.0) (same p.z_high.0)
  where
    by_first : (a : Bool) {b : Bool} → b ≡ true → a || (b || false) ≡ true
    by_first true e = refl
    by_first false e = ap (λ (t : Bool). t || false) e
one_of p false = ap (λ (t : Bool). t || (eqb p.z_low.0 p.z_high.0 || false)) (same p.z_low.0)

-- a sprite has 3, 6, 9 or 12
three_by_three : (n : ℕ) → n < 4 → holds sprite_priorities (3 + 3 * n) ≡ true
unfolding holds
three_by_three zero h = refl
three_by_three (suc zero) h = refl
three_by_three (suc (suc zero)) h = refl
three_by_three (suc (suc (suc zero))) h = refl
three_by_three (suc (suc (suc (suc n)))) h = absurd (omega arith)

-- and so each opaque pixel of the sprite line
module _ (v g : List ℕ) (view : View) (limit : ℕ) where
  abbrev Fair : Candidate → Type 0
  Fair c = c.opaque ≡ true → holds sprite_priorities c.pixel.z.0 ≡ true

  fetched_fair : (s : Sprite) (tiles : List Tile) (x : ℕ) → Fair (fetched_pixel v g view s tiles x)
  unfolding fetched_pixel pixel_in
  fetched_fair s tiles x = by_test (among tiles (across s x / 8))
    where
      by_test : (t : Bool) → Fair (cond t (pixel_in v g view s (across s x)) none)
      by_test true e = three_by_three (s.priority % 4) (omega arith)
      by_test false e = absurd (false≢true e)

  over_fair : (c d : Candidate) → Fair c → Fair d → Fair (over c d)
  over_fair c d f h = by_test c.opaque refl
    where
      by_test : (t : Bool) → c.opaque ≡ t → Fair (cond t c d)
      by_test true e = f
      by_test false e = h

  line_fair : (chosen : List Sprite) (x : ℕ) → Fair (line_pixel v g view limit chosen x)
  unfolding line_pixel
  line_fair [] x = λ e. absurd (false≢true e)
  line_fair (s ∷ later) x =
      over_fair (fetched_pixel v g view s (fetched_of limit view.objsel s later) x) (line_pixel v g view limit later x)
      (fetched_fair s (fetched_of limit view.objsel s later) x) (line_fair later x)

-- what is a candidate on a screen is opaque, and shown there
seen_on : (shown : Bool) (c : Candidate) → (on_screen shown c).opaque ≡ true →
    (on_screen shown c ≡ c) × ((c.opaque ≡ true) × (shown ≡ true))
seen_on shown c = by_test (c.opaque && shown) refl
  where
    by_test : (t : Bool) → c.opaque && shown ≡ t → (cond t c none).opaque ≡ true →
        (cond t c none ≡ c) × ((c.opaque ≡ true) × (shown ≡ true))
    by_test true e o = (refl, (and-eq-true_iff c.opaque shown).0 e)
    by_test false e o = absurd (false≢true o)

module _ (s : Scene) (y : ℕ) where
  abbrev mode : ℕ
  mode = s.regs.bgmode

  -- the priorities of layer k
  abbrev priorities_for : ℕ → List ℕ
  priorities_for k = get_or (layer_priorities (mode_rows mode)) k []

  priorities_low : (k : ℕ) → k < 4 → (bg_mode_of mode k).present ≡ true →
      (bg_mode_of mode k).low ∷ (bg_mode_of mode k).high ∷ [] ≡ priorities_for k
  unfolding bg_mode_of
  priorities_low k h e =
      let rows = mode_rows mode in
      let m = get_or rows k lacks in
      let long : k < length (map priorities_of rows) = rw (length-map, four_rows mode) h in
      (λ i. priorities (sym e i) m.low m.high)
      ∙ sym (get_or-append (map priorities_of rows) (sprite_priorities ∷ []) [] k long ∙ get_d_map priorities_of rows k lacks)

  priorities_four : (k : ℕ) → k ≡ 4 → sprite_priorities ≡ priorities_for k
  priorities_four k e =
      sym (get_or_at (map priorities_of (mode_rows mode)) sprite_priorities [] [] k (rw length-map (four_rows mode ∙ sym e)))

  -- a background's pixel has a priority of its own
  own_pixel : (k x : ℕ) →
      holds ((bg_mode_of mode k).low ∷ (bg_mode_of mode k).high ∷ []) (bg_at s y k x).pixel.z.0 ≡ true
  unfolding bg_pixel pixel_at params_of
  own_pixel k x =
      let p = params_of s.regs k in
      one_of p (entry_at s.vram p (source_column s.regs p x) (source_line s.regs p y)).high

  -- Said once of a screen: what shows a layer there, and that it shows only backgrounds that the mode has.
  module _ (on : Shown → ℕ → Bool)
      (only : (k x : ℕ) → on (bg_shown s k) x ≡ true → (bg_mode_of mode k).present ≡ true) where
    abbrev candidate : ℕ → ℕ → Candidate
    candidate x k = on_screen (on (layer_shown s k) x) (layer_pixel s y k x)

    abbrev OwnPriority : ℕ → Candidate → Type 0
    OwnPriority k c = c.opaque ≡ true → holds (priorities_for k) c.pixel.z.0 ≡ true

    own_low : (k x : ℕ) → k < 4 →
        OwnPriority k (on_screen (on (bg_shown s k) x) (bg_at s y k x))
    own_low k x h o =
        let seen = seen_on (on (bg_shown s k) x) (bg_at s y k x) o in
        (λ i. holds (sym (priorities_low k h (only k x seen.1.1)) i) (seen.0 i).pixel.z.0) ∙ own_pixel k x

    own_four : (k x : ℕ) (shown : Bool) → k ≡ 4 → OwnPriority k (on_screen shown (sprite_at s y x))
    unfolding sprites.sprite_pixel
    own_four k x shown e o =
        let seen = seen_on shown (sprite_at s y x) o in
        (λ i. holds (sym (priorities_four k e) i) (seen.0 i).pixel.z.0)
        ∙ line_fair s.vram s.cgram (sprites.view_of s.regs y) tile_limit (sprites.chosen_sprites s.oam s.regs y) x seen.1.0

    own : (x k : ℕ) → OwnPriority k (candidate x k)
    own x k = by_low (ltb k 4) refl
      where
        by_four : (t : Bool) → eqb k 4 ≡ t → 4 ≤ k → OwnPriority k (candidate x k)
        by_four true e h =
            let four = eqb-true k 4 e in
            subst (OwnPriority k) (λ i. on_screen (on (layer_shown s k) x) (pixel_four s y k four i x)) (own_four k x (on (layer_shown s k) x) four)
        by_four false e h =
            let apart : k ≡ 4 → ⊥ = eqb-false k 4 e in
            let above : 5 ≤ k = omega (arith, apart) in
            subst (OwnPriority k) (λ i. on_screen (on (layer_shown s k) x) (pixel_none s y k above i x)) (λ o. absurd (false≢true o))

        by_low : (t : Bool) → ltb k 4 ≡ t → OwnPriority k (candidate x k)
        by_low true e =
            let h = ltb-true k 4 e in
            subst (OwnPriority k) (λ i. on_screen (on (shown_low s k h i) x) (pixel_low s y k h i x)) (own_low k x h)
        by_low false e = by_four (eqb k 4) refl (ltb-false k 4 e)

    -- so no two tie
    no_ties : (x : ℕ) → NoTies (candidate x)
    no_ties x j k o n e =
        one_place (layer_priorities (mode_rows mode)) (nearness (candidate x) k) j k (no_shared_priority mode)
        ((λ i. holds (priorities_for j) (sym e i)) ∙ own x j o) (own x k n)

    -- and only the five layers have candidates
    below : (x k : ℕ) → Has (candidate x) k → k < 5
    below x k o = by_test (ltb k 5) refl
      where
        by_test : (t : Bool) → ltb k 5 ≡ t → k < 5
        by_test true e = ltb-true k 5 e
        by_test false e =
            let gone = sym (pixel_none s y k (ltb-false k 5 e)) in
            absurd (false≢true (subst (λ (c : Candidate). c.opaque ≡ true) (λ i. on_screen (on (layer_shown s k) x) (gone i x)) o))

  only_main : (k x : ℕ) → on_main (bg_shown s k) x ≡ true → (bg_mode_of mode k).present ≡ true
  unfolding background.bg_shown_by params_of
  only_main k x e = ((and-eq-true_iff (bg_mode_of mode k).present (bit_of s.regs.tm k)).0 ((and-eq-true_iff _ _).0 e).0).0

  only_sub : (k x : ℕ) → on_sub (bg_shown s k) x ≡ true → (bg_mode_of mode k).present ≡ true
  unfolding background.bg_shown_by params_of
  only_sub k x e = ((and-eq-true_iff (bg_mode_of mode k).present (bit_of s.regs.ts k)).0 ((and-eq-true_iff _ _).0 e).0).0

  -- No two candidates at a pixel of the main screen tie, whatever the mode; nor on the sub screen.
  pub no_ties_on_main : (x : ℕ) → NoTies (at (main_row (layer_shown s) (layer_pixel s y)) x)
  no_ties_on_main = no_ties on_main only_main

  pub no_ties_on_sub : (x : ℕ) → NoTies (at (sub_row (layer_shown s) (layer_pixel s y)) x)
  no_ties_on_sub = no_ties on_sub only_sub

  -- and a layer above 4 has none
  pub five_on_main : (x k : ℕ) → Has (at (main_row (layer_shown s) (layer_pixel s y)) x) k → k < 5
  five_on_main = below on_main only_main

  pub five_on_sub : (x k : ℕ) → Has (at (sub_row (layer_shown s) (layer_pixel s y)) x) k → k < 5
  five_on_sub = below on_sub only_sub
