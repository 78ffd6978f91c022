-- The edges of the rules on sprites hold.
use Rattle.std.specs.Prelude.{ℕ, ◌+◌, ◌*◌, ◌/◌, ◌%◌, ◌<◌, ◌≤◌, ◌≡◌, refl, true, false, ◌||◌, List, [], ◌∷◌, map, length, take}
use Rattle.std.proofs.Common.{ap, ◌∙◌, arith, length-take, take_all, ne_eqb}
use Rattle.std.proofs.Math.Bool.{cond}
use Rattle.base_lists.specs.Tab.{tab}
use Rattle.base_lists.specs.Keep.{keep}
use Rattle.base_lists.specs.Each.{Each}
use Rattle.base_lists.specs.theorems.Each.{each_tab, each_keep, each_take}
use Rattle.oam.specs.declared.Sprite.{Sprite}
use Rattle.oam.specs.Sprites.{chr_base_of}
use Rattle.sprite_row.specs.SpriteRow.{x9, size_in, meets_row, passes, counts, count_to}
use Rattle.line_pixels.specs.Pixels.{none}
use Rattle.sprite_tile.specs.declared.View.{View}
use Rattle.sprite_tile.specs.Tile.{line_in, pixel_on, pixel_in}
use Rattle.sprite_tile.specs.theorems.Lines.{not_flipped}
use Rattle.sprite_fetch.specs.Fetch.{tile, counting_places, fetch_order, fetched, fetched_of, among, across, fetched_pixel}
use Rattle.sprite_fetch.specs.steps.Turns.{leaves, own_places}
use Rattle.sprite_layer.specs.Edges.{ShowsLine, SpriteEdges}

-- no place above a sprite's own is among its tiles
off : (s : Sprite) (n u : ℕ) → n ≤ u → (l : List ℕ) → Each (λ t. t < n) l → among (map (tile s) l) u ≡ false
unfolding among
off s n u h [] e = refl
off s n u h (t ∷ l) e =
    let b : t < n = e.0 in
    (λ i. ne_eqb t u (λ d. absurd (omega arith)) i || among (map (tile s) l) u) ∙ off s n u h l e.1

module _ (v g : List ℕ) (view : View) (limit : ℕ) (s : Sprite) (later : List Sprite) (x : ℕ) where
  places : let n = (size_in view.objsel s).width / 8 in Each (λ t. t < n) (counting_places view.objsel s)
  unfolding counting_places
  places =
      let n = (size_in view.objsel s).width / 8 in
      each_keep (λ t. t < n) (counts (x9 s)) (tab n (λ t. t)) (each_tab (λ t. t < n) n (λ t. t) (λ t b. b))

  -- a sprite has no pixel at a column that its tiles do not reach
  beyond : (size_in view.objsel s).width / 8 ≤ across s x / 8 →
      fetched_pixel v g view s (fetched_of limit view.objsel s later) x ≡ none
  unfolding fetched_pixel
  beyond h =
      let o = view.objsel in
      let w = (size_in o s).width / 8 in
      let n = leaves limit o s later in
      let e =
      (λ i. among (own_places limit o s later i) (across s x / 8))
      ∙ off s w (across s x / 8) h (take n (counting_places o s)) (each_take (λ t. t < w) n (counting_places o s) places) in
      λ i. cond (e i) (pixel_in v g view s (across s x)) none

-- at x9 505 the one tile of a sprite of 8 columns is fetched, where the limit leaves it room
one_tile : (limit objsel : ℕ) (s : Sprite) (later : List Sprite) → x9 s ≡ 505 → (size_in objsel s).width ≡ 8 →
    length (fetched limit objsel later) < limit → fetched_of limit objsel s later ≡ tile s 0 ∷ []
unfolding counting_places counts keep tab
one_tile limit o s later at wide room =
    let places : counting_places o s ≡ 0 ∷ [] = rw (at, wide) in
    let left : 1 ≤ leaves limit o s later = omega (arith, length-take limit (fetch_order o later)) in
    own_places limit o s later
    ∙ (λ i. map (tile s) (take (leaves limit o s later) (places i)))
    ∙ ap (map (tile s)) (take_all (leaves limit o s later) (0 ∷ []) left)

last : (n : ℕ) → (n * 4 + 3) % 4 ≡ 3
last n = omega arith

base_of : (objsel : ℕ) → objsel % 32 ≡ 0x1B → chr_base_of objsel 1 ≡ 0x2000
base_of objsel e =
    let base : objsel % 8 ≡ 3 = omega arith in
    let eighth : objsel / 8 ≡ objsel / 32 * 4 + 3 = omega arith in
    let select : objsel / 8 % 4 ≡ 3 = rw eighth (last (objsel / 32)) in
    rw (base, select)

shows_line : (view : View) (s : Sprite) {n : ℕ} → meets_row view.row view.objsel view.obj_interlace s ≡ true →
    line_in view s (size_in view.objsel s).width ≡ n → ShowsLine view s n
unfolding fetched_pixel pixel_in
shows_line view s m e =
    record {
      meets = m;
      pixels = λ v g tiles x t.
          (λ i. cond (t i) (pixel_in v g view s (across s x)) none)
          ∙ (λ i. pixel_on v g s (size_in view.objsel s).width (e i) (across s x));
    }

pub sprite_edges : SpriteEdges
unfolding passes counts count_to meets_row line_in among fetched_pixel
sprite_edges =
    record {
      passed_504 = λ s o a w. rw (a, w);
      met_505 = λ s o a w. rw (a, w);
      tiles_505 = λ s o a w. rw (a, w);
      fetched_505 = one_tile;
      column_505 = λ v g view limit s later a w room. rw (one_tile limit view.objsel s later a w room, a);
      others_505 = λ v g view limit s later x a w n h. beyond v g view limit s later x (rw (a, w) (omega arith));
      tiles_256 = λ s o a w. rw (a, w);
      pixels_256 = λ v g view limit s later x a w h. beyond v g view limit s later x (rw (a, w) (omega arith));
      tiles_500 = λ s o a w. rw (a, w);
      line_2 = λ s a. rw a;
      shown_2 = λ view s r p y h f. shows_line view s (rw (r, p, y, h)) (rw (r, p, y, f) (not_flipped _ 8));
      row_2 = λ s o a t. rw (a, t);
      row_10 = λ s o a t. rw (a, t);
      tall_0 = λ view s t l. shows_line view s (rw (t.size, t.plain, l)) (rw (t.size, t.plain, t.flipped, l));
      tall_16 = λ view s t l. shows_line view s (rw (t.size, t.plain, l)) (rw (t.size, t.plain, t.flipped, l));
      base_1_b = base_of;
    }
