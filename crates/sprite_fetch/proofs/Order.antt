-- The loops of `fetch`, as laws on lists: what one more tile does to those fetched so far, and that nothing after the 34th
-- changes them.
use Prim.Native.Nat.{ℕ, zero, suc, ◌+◌, ◌-◌, ◌/◌, ◌<◌, ◌≤◌}
use mathlib.Core.Path.{◌≡◌, refl, sym, ap, subst, ◌∙◌}
use mathlib.Core.Logic.{⊎_elim}
use mathlib.Core.Bool.{true, false}
use mathlib.Core.List.{List, [], ◌∷◌, ◌++◌, map, map-append, append_assoc, append-nil}
use native.Mathlib.Omega.{arith}
use native.Mathlib.Nat.{eq-or-lt_of_le}
use lib.ListN.{length, get_or, set, take, drop, replicate, length-append, length-map, length-take}
use lib.Seq.{take_all, take-append-le, drop-cons, get_or-set_same, get_or-set_other, get_or-take, length-take-le}
use Rattle.base_lists.specs.theorems.Each.{get_d_map}
use Rattle.base_lists.specs.Tab.{tab}
use Rattle.base_lists.specs.theorems.Tab.{tab_none, tab_more, tab_split}
use Rattle.base_lists.specs.Keep.{keep}
use Rattle.base_lists.specs.theorems.Keep.{keep_none, keep_append, keep_yes, keep_no}
use Rattle.base_lists.specs.Places.{places}
use Rattle.base_lists.specs.theorems.Places.{places_none, places_more, length_places}
use Rattle.oam.specs.declared.Sprite.{Sprite}
use Rattle.oam.specs.Sprites.{blank_sprite}
use Rattle.sprite_row.specs.SpriteRow.{x9, size_in, counts}
use Rattle.sprite_tile.specs.declared.View.{View}
use Rattle.sprite_tile.specs.declared.PlacedRow.{PlacedRow}
use Rattle.sprite_tile.specs.steps.Placed.{PlacedSound}
use Rattle.sprite_choice.specs.declared.VisibleSprite.{VisibleSprite}
use Rattle.sprite_choice.specs.Choice.{blank_place}
use Rattle.sprite_fetch.specs.declared.Fetched.{Fetched}
use Rattle.sprite_fetch.specs.Fetch.{Tile, tile, counting_places, counting_tiles, fetch_order}
use Rattle.sprite_fetch.specs.steps.Walk.{placed_in, blank_row, AllSound, sprites_of, fetched_list}

-- the counting tiles among a sprite's first n
abbrev places_to : Sprite → ℕ → List ℕ
places_to s n = keep (counts (x9 s)) (tab n (λ t. t))

abbrev pub tiles_to : Sprite → ℕ → List Tile
tiles_to s n = map (tile s) (places_to s n)

pub tiles_none : (s : Sprite) → tiles_to s 0 ≡ []
tiles_none s = λ i. map (tile s) ((ap (keep (counts (x9 s))) (tab_none (λ t. t)) ∙ keep_none (counts (x9 s))) i)

pub tiles_no : (s : Sprite) (t : ℕ) → counts (x9 s) t ≡ false → tiles_to s (t + 1) ≡ tiles_to s t
tiles_no s t e = λ i. map (tile s) ((ap (keep (counts (x9 s))) (tab_more (λ n. n) t) ∙ keep_no (counts (x9 s)) (tab t (λ n. n)) t e) i)

pub tiles_yes : (s : Sprite) (t : ℕ) → counts (x9 s) t ≡ true → tiles_to s (t + 1) ≡ tiles_to s t ++ tile s t ∷ []
tiles_yes s t e =
    (λ i. map (tile s) ((ap (keep (counts (x9 s))) (tab_more (λ n. n) t) ∙ keep_yes (counts (x9 s)) (tab t (λ n. n)) t e) i))
    ∙ map-append (tile s) (places_to s t) (t ∷ [])

-- those from place t on, j of them
tiles_from : Sprite → ℕ → ℕ → List Tile
tiles_from s t j = map (tile s) (keep (counts (x9 s)) (tab j (λ i. t + i)))

tiles_split : (s : Sprite) (t j : ℕ) → tiles_to s (t + j) ≡ tiles_to s t ++ tiles_from s t j
unfolding tiles_from
tiles_split s t j =
    (λ i. map (tile s) ((ap (keep (counts (x9 s))) (tab_split (λ n. n) t j) ∙ keep_append (counts (x9 s)) (tab t (λ n. n)) (tab j (λ n. t + n))) i))
    ∙ map-append (tile s) (places_to s t) (keep (counts (x9 s)) (tab j (λ n. t + n)))

module _ (objsel : ℕ) where
  pub order_none : fetch_order objsel [] ≡ []
  unfolding fetch_order
  order_none = refl

  -- the sprite at place k of a list comes after those that were chosen after it
  pub order_more : (l : List Sprite) (k : ℕ) → k < length l →
      let s = get_or l k blank_sprite in
      fetch_order objsel (drop (k + 1) l) ++ tiles_to s ((size_in objsel s).width / 8) ≡ fetch_order objsel (drop k l)
  unfolding fetch_order counting_places
  order_more l k h =
      let s = get_or l k blank_sprite in
      let e : k + 1 ≡ suc k = omega arith in
      (λ i. fetch_order objsel (drop (e i) l) ++ tiles_to s ((size_in objsel s).width / 8))
      ∙ ap (fetch_order objsel) (sym (drop-cons l k blank_sprite h))

  -- those that come after place k is done
  earlier : ℕ → List Sprite → List Tile
  earlier zero l = []
  earlier (suc k) [] = []
  earlier (suc k) (s ∷ l) = earlier k l ++ counting_tiles objsel s

  order_split : (k : ℕ) (l : List Sprite) → fetch_order objsel l ≡ fetch_order objsel (drop k l) ++ earlier k l
  unfolding fetch_order earlier
  order_split zero l = sym (append-nil (fetch_order objsel l))
  order_split (suc k) [] = refl
  order_split (suc k) (s ∷ l) =
      (λ i. order_split k l i ++ counting_tiles objsel s)
      ∙ append_assoc (fetch_order objsel (drop k l)) (earlier k l) (counting_tiles objsel s)

  -- what is left to fetch where the loop stands at tile t of the sprite at place k
  rest : List Sprite → ℕ → ℕ → List Tile
  rest l k t =
      tiles_from (get_or l k blank_sprite) t ((size_in objsel (get_or l k blank_sprite)).width / 8 - t) ++ earlier k l

  all_order : (l : List Sprite) (k t : ℕ) → k < length l → t < (size_in objsel (get_or l k blank_sprite)).width / 8 →
      (fetch_order objsel (drop (k + 1) l) ++ tiles_to (get_or l k blank_sprite) t) ++ rest l k t ≡ fetch_order objsel l
  unfolding rest
  all_order l k t h b =
      let s = get_or l k blank_sprite in
      let n = (size_in objsel s).width / 8 in
      let o = fetch_order objsel (drop (k + 1) l) in
      let e : t + (n - t) ≡ n = omega arith in
      append_assoc o (tiles_to s t) (tiles_from s t (n - t) ++ earlier k l)
      ∙ (λ i. o ++ sym (append_assoc (tiles_to s t) (tiles_from s t (n - t)) (earlier k l)) i)
      ∙ (λ i. o ++ (sym (tiles_split s t (n - t)) i ++ earlier k l))
      ∙ (λ i. o ++ (tiles_to s (e i) ++ earlier k l))
      ∙ sym (append_assoc o (tiles_to s n) (earlier k l))
      ∙ (λ i. order_more l k h i ++ earlier k l)
      ∙ sym (order_split k l)

module _ (view : View) where
  -- the loops' variables hold the first 34 of the tiles l
  pub record SoFar (l : List Tile) (rows : List PlacedRow) (count : ℕ) : Type 0 where
    pub is_rows : rows ≡ places 34 blank_row (map (placed_in view) (take 34 l))
    pub is_count : count ≡ length (take 34 l)
    pub few : count ≤ 34
    pub sound : AllSound count rows

  pub so_far_none : {l : List Tile} {p : PlacedRow} → l ≡ [] → p ≡ blank_row → SoFar l (replicate 34 p) 0
  so_far_none e d =
      rw e
      (record { is_rows = ap (replicate 34) d ∙ places_none 34 blank_row; is_count = refl; few = omega arith; sound = λ i h. absurd (omega arith) })

  pub so_far_at : {l m : List Tile} {rows : List PlacedRow} {count : ℕ} → l ≡ m → SoFar l rows count → SoFar m rows count
  so_far_at {rows = rows} {count} e s = subst (λ (l : List Tile). SoFar l rows count) e s

  -- the slot that is set is sound, and so are those before it
  sound_more : (rows : List PlacedRow) (count : ℕ) (a : PlacedRow) → AllSound count rows → PlacedSound a → count < length rows →
      AllSound (count + 1) (set rows count a)
  sound_more rows count a h s b i k =
      ⊎_elim
      (λ e. subst (λ (n : ℕ). PlacedSound (get_or (set rows count a) n blank_row)) (sym e) (subst PlacedSound (sym (get_or-set_same rows count a blank_row b)) s))
      (λ l. let d : i ≡ count → ⊥ = λ e. absurd (omega arith) in subst PlacedSound (sym (get_or-set_other rows count i a blank_row d)) (h i l))
      (eq-or-lt_of_le {n = i} {m = count} (omega arith))

  -- one more tile
  pub so_far_more : {l : List Tile} {rows : List PlacedRow} {count : ℕ} {a : PlacedRow} (p : Tile) → SoFar l rows count →
      (count ≡ 34 → ⊥) → a ≡ placed_in view p → PlacedSound a → SoFar (l ++ p ∷ []) (set rows count a) (count + 1)
  so_far_more {l} {rows} {count} {a} p s n e h =
      let c : count < 34 = omega (arith, n, s.few) in
      let short : length l < 34 = omega (arith, s.is_count, length-take 34 l) in
      let is : take 34 l ≡ l = take_all 34 l (omega arith) in
      let m = map (placed_in view) l in
      let long : length m ≡ length l = length-map l (placed_in view) in
      let at : count ≡ length m = omega (arith, s.is_count, length-take 34 l) in
      let held : rows ≡ places 34 blank_row m = s.is_rows ∙ (λ i. places 34 blank_row (map (placed_in view) (is i))) in
      let more : length (l ++ p ∷ []) ≡ length l + 1 = length-append l (p ∷ []) in
      let all : take 34 (l ++ p ∷ []) ≡ l ++ p ∷ [] = take_all 34 (l ++ p ∷ []) (omega arith) in
      let room : count < length rows = rw (held, length_places 34 blank_row m (omega arith)) c in
      record {
        is_rows =
            (λ i. set (held i) (at i) (e i))
            ∙ places_more 34 blank_row m (placed_in view p) (omega arith)
            ∙ (λ i. places 34 blank_row (sym (map-append (placed_in view) l (p ∷ [])) i))
            ∙ (λ i. places 34 blank_row (map (placed_in view) (sym all i)));
        is_count = rw all (omega arith);
        few = omega arith;
        sound = sound_more rows count a s.sound h room;
      }

  -- once there are 34, nothing after them changes them
  pub so_far_full : {l : List Tile} {rows : List PlacedRow} {count : ℕ} (m : List Tile) → SoFar l rows count → count ≡ 34 →
      SoFar (l ++ m) rows count
  so_far_full {l} m s e =
      let h : 34 ≤ length l = omega (arith, s.is_count, length-take 34 l) in
      let same : take 34 (l ++ m) ≡ take 34 l = take-append-le 34 l m h in
      record {
        is_rows = s.is_rows ∙ (λ i. places 34 blank_row (map (placed_in view) (sym same i)));
        is_count = s.is_count ∙ (λ i. length (sym same i));
        few = s.few;
        sound = s.sound;
      }

  -- so a full fetch is the whole fetch
  pub full : {rows : List PlacedRow} {count : ℕ} (objsel : ℕ) (l : List Sprite) (k t : ℕ) → k < length l →
      t < (size_in objsel (get_or l k blank_sprite)).width / 8 →
      SoFar (fetch_order objsel (drop (k + 1) l) ++ tiles_to (get_or l k blank_sprite) t) rows count → count ≡ 34 →
      SoFar (fetch_order objsel l) rows count
  full objsel l k t h b s e = so_far_at (all_order objsel l k t h b) (so_far_full (rest objsel l k t) s e)

  -- what the fetch hands back
  pub built : {l : List Tile} {rows : List PlacedRow} {count : ℕ} → SoFar l rows count →
      ◌≡◌ {A = Fetched} (record { rows = rows; count = count }) (fetched_list view (take 34 l))
      × ((count ≤ 34) × AllSound count rows)
  unfolding fetched_list
  built s = ((λ i. record { rows = s.is_rows i; count = s.is_count i }), (s.few, s.sound))

-- the sprites of the first n places
module _ (n : ℕ) (l : List VisibleSprite) where
  pub sprites_long : n ≤ length l → length (sprites_of n l) ≡ n
  sprites_long h = length-map (take n l) (λ p. p.sprite) ∙ length-take-le n l h

  pub sprite_at_lem : (k : ℕ) → k < n → (get_or l k blank_place).sprite ≡ get_or (sprites_of n l) k blank_sprite
  sprite_at_lem k h =
      sym (get_d_map (λ (p : VisibleSprite). p.sprite) (take n l) k blank_place ∙ (λ i. (get_or-take n l k blank_place h i).sprite))
