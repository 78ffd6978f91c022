-- Tiles drawn one over the other in the order of the fetch leave at each column the pixel of the first chosen sprite that has a
-- fetched opaque pixel there.
use Prim.Native.Nat.{ℕ, ◌+◌, ◌-◌, ◌*◌, ◌/◌, ◌%◌, ◌<◌, ◌≤◌}
use mathlib.Core.Path.{◌≡◌, refl, sym, ap, ◌∙◌}
use mathlib.Core.Bool.{Bool, true, false, cond, ◌||◌}
use mathlib.Core.List.{List, [], ◌∷◌, map, map-append}
use native.Mathlib.Omega.{arith}
use native.Mathlib.Nat.{mod-eq_of_lt, add-mod_right}
use lib.ListN.{length, take, length-map}
use lib.Seq.{take-nil}
use lib.Dec.{ltb, eqb, lit<}
use borrow.Author.Tests.{lt-ltb, le-ltb, ltb-true, ltb-false, eqb-true, eqb-false}
use Rattle.base_lists.specs.Tab.{tab}
use Rattle.base_lists.specs.theorems.Tab.{tab_ext}
use Rattle.base_lists.specs.Places.{places}
use Rattle.base_lists.specs.theorems.Places.{take_places}
use Rattle.base_lists.specs.Each.{Each}
use Rattle.base_lists.specs.theorems.Each.{each_tab, each_keep, each_take}
use Rattle.base_signed.specs.theorems.Remainder.{remainder_small}
use Rattle.tiles.specs.Tiles.{mirrored}
use Rattle.oam.specs.declared.Sprite.{Sprite}
use Rattle.oam.specs.steps.Sprites.{Sized}
use Rattle.oam.proofs.Fair.{size_fair}
use Rattle.sprite_row.specs.SpriteRow.{x9, size_in, tile_at, counts}
use Rattle.line_pixels.specs.declared.Candidate.{Candidate}
use Rattle.line_pixels.specs.Pixels.{none}
use Rattle.sprite_tile.specs.declared.View.{View}
use Rattle.sprite_tile.specs.Tile.{line_in, sprite_index_at, pixel_in}
use Rattle.sprite_tile.specs.steps.Placed.{placed_of}
use Rattle.sprite_tile.proofs.Laws.{placed_index}
use Rattle.sprite_fetch.specs.declared.Fetched.{Fetched}
use Rattle.sprite_fetch.specs.Fetch.{Tile, tile, counting_places, fetch_order, fetched, fetched_of, among, across, over, fetched_pixel, line_pixel}
use Rattle.sprite_fetch.specs.steps.Turns.{leaves, own_places}
use Rattle.sprite_fetch.proofs.theorems.Turns.{in_turn}
use Rattle.sprite_fetch.specs.steps.Walk.{placed_in, blank_row, fetched_list, offset_in, drawn_to, drawn_all, drawn_line}
use Rattle.sprite_fetch.proofs.Draws.{drawn_append}

-- A column less the left edge of a sprite, and less that of a tile n further on: three cases, by which of the sums pass 512.
args : (a n x : ℕ) → a ≤ x → n ≤ 512 → x + 512 - (a + n) ≡ x - a + 512 - n
args a n x h k = omega arith

args_past : (a n x : ℕ) → a ≤ x + 512 → n ≤ 512 → 512 ≤ a + n → x + 512 - (a + n - 512) ≡ x + 512 - a + 512 - n
args_past a n x h k p = omega arith

args_before : (a n x : ℕ) → a + n ≤ x + 512 → x + 512 - a + 512 - n ≡ x + 512 - (a + n) + 512
args_before a n x h = omega arith

past : (m : ℕ) → 512 ≤ m → m < 1024 → m % 512 ≡ m - 512
past m h k = omega arith

-- a column's distance from the left edge of a tile, by its distance from that of the sprite: n is where the tile begins in it
module _ (a n x : ℕ) (nine : a < 512) (low : n ≤ 56) (h : x < 256) where
  from_tile : ℕ
  from_tile = (x + 512 - (a + n) % 512) % 512

  from_sprite : ℕ
  from_sprite = ((x + 512 - a) % 512 + 512 - n) % 512

  right : a ≤ x → from_tile ≡ from_sprite
  unfolding from_tile from_sprite
  right b =
      let e : x + 512 - a ≡ x - a + 512 = omega arith in
      let d = ap (λ (m : ℕ). m % 512) e ∙ (add-mod_right (x - a) 512 ∙ mod-eq_of_lt {n = x - a} {m = 512} (omega arith)) in
      rw (d, mod-eq_of_lt {n = a + n} {m = 512} (omega arith), args a n x b (omega arith))

  left : x < a → (t : Bool) → ltb (a + n) 512 ≡ t → from_tile ≡ from_sprite
  unfolding from_tile from_sprite
  left b true l =
      let k : a + n < 512 = ltb-true (a + n) 512 l in
      let near = mod-eq_of_lt {n = x + 512 - a} {m = 512} (omega arith) in
      rw (near, mod-eq_of_lt {n = a + n} {m = 512} k, args_before a n x (omega arith), add-mod_right (x + 512 - (a + n)) 512)
  left b false l =
      let k : 512 ≤ a + n = ltb-false (a + n) 512 l in
      let near = mod-eq_of_lt {n = x + 512 - a} {m = 512} (omega arith) in
      rw (near, past (a + n) k (omega arith), args_past a n x (omega arith) (omega arith) k)

  either : (t : Bool) → ltb x a ≡ t → from_tile ≡ from_sprite
  either true l = left (ltb-true x a l) (ltb (a + n) 512) refl
  either false l = right (ltb-false x a l)

  by_distance : (x + 512 - (a + n) % 512) % 512 ≡ ((x + 512 - a) % 512 + 512 - n) % 512
  unfolding from_tile from_sprite
  by_distance = either (ltb x a) refl

-- of tile t: within it, and beyond it
within : (t c : ℕ) → t < 8 → c < 512 → t ≡ c / 8 → (c + 512 - t * 8) % 512 ≡ c % 8
within t c l b e = omega arith

beyond : (t c : ℕ) → t < 8 → c < 512 → (t ≡ c / 8 → ⊥) → 8 ≤ (c + 512 - t * 8) % 512
beyond t c l b d = omega (arith, d)

-- the same pixel, drawn twice
again : (a b : Bool) (p h : Candidate) → over (cond b p none) (over (cond a p none) h) ≡ over (cond (a || b) p none) h
again true true p h = twice p.opaque refl
  where
    twice : (t : Bool) → p.opaque ≡ t → over p (over p h) ≡ over p h
    twice true e = rw e
    twice false e = rw e
again true false p h = refl
again false b p h = refl

module _ (v g : List ℕ) (view : View) (byte : view.objsel < 256) (x : ℕ) (h : x < 256) where
  module _ (s : Sprite) where
    abbrev width : ℕ
    width = (size_in view.objsel s).width

    fair : Sized (size_in view.objsel s)
    fair = size_fair view.objsel s.large byte

    nine : x9 s < 512
    nine = remainder_small s.x (lit< tt)

    -- one tile, drawn
    tile_drawn : (t : ℕ) → t < width / 8 → (q : Candidate) →
        drawn_to v g (placed_in view (tile s t)) 8 x q
        ≡ over (cond (eqb t (across s x / 8)) (pixel_in v g view s (across s x)) none) q
    unfolding drawn_to pixel_in placed_of
    tile_drawn t b q = by_cases (eqb t (across s x / 8)) refl
      where
        low : t < 8
        low = let n : width ≤ 64 = fair.narrow in omega arith

        offset : (x + 512 - tile_at (x9 s) t) % 512 ≡ (across s x + 512 - t * 8) % 512
        offset = by_distance (x9 s) (t * 8) x nine (omega (arith, low)) h

        by_cases : (u : Bool) → eqb t (across s x / 8) ≡ u →
            drawn_to v g (placed_in view (tile s t)) 8 x q
            ≡ over (cond u (pixel_in v g view s (across s x)) none) q
        by_cases true e =
            let d : t ≡ across s x / 8 = eqb-true t (across s x / 8) e in
            let k : offset_in (placed_in view (tile s t)) x ≡ across s x % 8 = offset ∙ within t (across s x) low (omega arith) d in
            let p : t * 8 + across s x % 8 ≡ across s x = omega arith in
            let line = line_in view s width in
            let i =
            placed_index width t (across s x % 8) fair.whole b (omega arith) v s line
            ∙ (λ j. sprite_index_at v s (mirrored (p j) width s.flip_x) line) in
            rw (k, lt-ltb (across s x % 8) 8 (omega arith), i)
        by_cases false e =
            let b : 8 ≤ (across s x + 512 - t * 8) % 512 = beyond t (across s x) low (omega arith) (eqb-false t (across s x / 8) e) in
            let d : 8 ≤ offset_in (placed_in view (tile s t)) x = rw offset b in
            rw (le-ltb (offset_in (placed_in view (tile s t)) x) 8 d)

    -- several of a sprite's tiles
    tiles_drawn : (ts : List ℕ) → Each (λ t. t < width / 8) ts → (q : Candidate) →
        drawn_all v g (map (placed_in view) (map (tile s) ts)) x q ≡ over (fetched_pixel v g view s (map (tile s) ts) x) q
    unfolding drawn_all fetched_pixel among
    tiles_drawn [] b q = refl
    tiles_drawn (t ∷ ts) b q =
        let p = pixel_in v g view s (across s x) in
        tiles_drawn ts b.1 (drawn_to v g (placed_in view (tile s t)) 8 x q)
        ∙ ((λ i. over (fetched_pixel v g view s (map (tile s) ts) x) (tile_drawn t b.0 q i))
        ∙ again (eqb t (across s x / 8)) (among (map (tile s) ts) (across s x / 8)) p q)

    in_width : Each (λ t. t < width / 8) (counting_places view.objsel s)
    unfolding counting_places
    in_width =
        each_keep (λ t. t < width / 8) (counts (x9 s)) (tab (width / 8) (λ t. t))
        (each_tab (λ t. t < width / 8) (width / 8) (λ t. t) (λ t b. b))

  pub shows : (limit : ℕ) (l : List Sprite) →
      drawn_all v g (map (placed_in view) (fetched limit view.objsel l)) x none ≡ line_pixel v g view limit l x
  unfolding line_pixel fetch_order drawn_all
  shows limit [] = λ i. drawn_all v g (map (placed_in view) (take-nil {A = Tile} limit i)) x none
  shows limit (s ∷ later) =
      let o = view.objsel in
      let ts = take (leaves limit o s later) (counting_places o s) in
      let own = own_places limit o s later in
      (λ i. drawn_all v g (map (placed_in view) (in_turn limit o s later i)) x none)
      ∙ ((λ i. drawn_all v g (map-append (placed_in view) (fetched limit o later) (fetched_of limit o s later) i) x none)
      ∙ (drawn_append v g (map (placed_in view) (fetched limit o later)) (map (placed_in view) (fetched_of limit o s later)) x none
      ∙ ((λ i. drawn_all v g (map (placed_in view) (own i)) x (shows limit later i))
      ∙ (tiles_drawn s ts (each_take (λ t. t < width s / 8) (leaves limit o s later) (counting_places o s) (in_width s)) (line_pixel v g view limit later x)
      ∙ (λ i. over (fetched_pixel v g view s (sym own i) x) (line_pixel v g view limit later x))))))

-- so the line that is drawn of the fetched tiles is the sprite line
module _ (v g : List ℕ) (view : View) (byte : view.objsel < 256) where
  listed : (l : List Tile) → take (length l) (places 34 blank_row (map (placed_in view) l)) ≡ map (placed_in view) l
  listed l =
      ap (λ (n : ℕ). take n (places 34 blank_row (map (placed_in view) l))) (sym (length-map l (placed_in view)))
      ∙ take_places 34 blank_row (map (placed_in view) l)

  pub drawn_line_lem : {f : Fetched} (l : List Sprite) → f ≡ fetched_list view (fetched 34 view.objsel l) →
      drawn_line v g (take f.count f.rows) ≡ tab 256 (line_pixel v g view 34 l)
  unfolding fetched_list
  drawn_line_lem l e =
      (λ i. drawn_line v g (take (e i).count (e i).rows))
      ∙ ((λ i. drawn_line v g (listed (fetched 34 view.objsel l) i)) ∙ tab_ext 256 _ _ (λ x h. shows v g view byte x h 34 l))
