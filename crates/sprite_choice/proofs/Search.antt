-- The loop of `choose`, as laws on lists: what one more place of the search does to the sprites found so far, and how the
-- choice follows from them.
use Prim.Native.Nat.{ℕ, ◌+◌, ◌-◌, ◌*◌, ◌<◌, ◌≤◌}
use mathlib.Core.Path.{◌≡◌, refl, sym, ◌∙◌, ap}
use mathlib.Core.Bool.{Bool, true, false}
use mathlib.Core.List.{List, [], ◌∷◌, ◌++◌, map, map-append, append_assoc}
use native.Mathlib.Nat.{add-zero, zero-add, add_assoc}
use native.Mathlib.Omega.{arith}
use lib.ListN.{length, take, set, replicate, length-append, length-map}
use lib.Seq.{take_at}
use lib.Dec.{ltb}
use borrow.Author.Tests.{lt-ltb}
use Rattle.base_lists.specs.Tab.{tab}
use Rattle.base_lists.specs.theorems.Tab.{tab_none, tab_more, tab_split}
use Rattle.base_lists.specs.Places.{places}
use Rattle.base_lists.specs.theorems.Places.{places_none, places_more}
use Rattle.base_lists.specs.Keep.{keep}
use Rattle.base_lists.specs.theorems.Keep.{keep_none, keep_append, keep_yes, keep_no}
use Rattle.oam.specs.Sprites.{sprite_of}
use Rattle.sprite_row.specs.SpriteRow.{in_range, tiles_of}
use Rattle.sprite_choice.specs.declared.VisibleSprite.{VisibleSprite}
use Rattle.sprite_choice.specs.declared.Chosen.{Chosen}
use Rattle.sprite_choice.specs.Choice.{search_at, found, tile_sum, visible, blank_place, choice_of}

pub none_is : {p : VisibleSprite} → p ≡ blank_place → replicate 32 p ≡ places 32 blank_place []
none_is e = ap (replicate 32) e ∙ places_none 32 blank_place

module _ (oam : List ℕ) (objsel : ℕ) where
  tiles_more : (l : List ℕ) (i : ℕ) → tile_sum oam objsel (l ++ i ∷ []) ≡ tile_sum oam objsel l + tiles_of objsel (sprite_of oam i objsel)
  unfolding tile_sum
  tiles_more [] i = simp (add-zero, zero-add)
  tiles_more (j ∷ l) i =
      rw (tiles_more l i) (sym (add_assoc (tiles_of objsel (sprite_of oam j objsel)) (tile_sum oam objsel l) (tiles_of objsel (sprite_of oam i objsel))))

  -- the loop's variables hold the list of the sprites found so far
  pub record SoFar (l : List ℕ) (sprites : List VisibleSprite) (count tiles : ℕ) : Type 0 where
    pub is_sprites : sprites ≡ places 32 blank_place (map (visible oam objsel) l)
    pub is_count : count ≡ length l
    pub is_tiles : tiles ≡ tile_sum oam objsel l
    pub few : count ≤ 32
    pub small : tiles ≤ 8 * count

  pub so_far_none : {l : List ℕ} {p : VisibleSprite} → l ≡ [] → p ≡ blank_place → SoFar l (replicate 32 p) 0 0
  unfolding tile_sum
  so_far_none e d =
      rw e (record { is_sprites = none_is d; is_count = refl; is_tiles = refl; few = omega arith; small = omega arith })

  pub so_far_more : {l m : List ℕ} {sprites : List VisibleSprite} {count tiles t : ℕ} {p : VisibleSprite} (i : ℕ) →
      SoFar l sprites count tiles → m ≡ l ++ i ∷ [] → (count ≡ 32 → ⊥) → p ≡ visible oam objsel i →
      t ≡ tiles_of objsel p.sprite → t ≤ 8 → SoFar m (set sprites count p) (count + 1) (tiles + t)
  so_far_more {l} {m} {sprites} {count} {tiles} {t} {p} i s e n q f h =
      let few : count ≤ 32 = s.few in
      let less : length (map (visible oam objsel) l) < 32 = omega (arith, s.is_count, n, length-map l (visible oam objsel)) in
      rw e
      (record {
        is_sprites =
            rw (s.is_sprites, s.is_count, q, map-append (visible oam objsel) l (i ∷ []), ← length-map l (visible oam objsel))
            (places_more 32 blank_place (map (visible oam objsel) l) (visible oam objsel i) less);
        is_count = ap (λ (k : ℕ). k + 1) s.is_count ∙ sym (length-append l (i ∷ []));
        is_tiles = rw (s.is_tiles, f, q) (sym (tiles_more l i));
        few = omega (arith, n);
        small = omega (arith, s.small);
      })

  -- the choice, from what the loop's variables hold
  pub built : (all l : List ℕ) {sprites : List VisibleSprite} {count tiles : ℕ} {over : Bool} →
      take 32 all ≡ l → ltb 32 (length all) ≡ over → SoFar l sprites count tiles →
      ◌≡◌ {A = Chosen} (record { sprites = sprites; count = count; tiles = tiles; time_over = ltb 34 tiles; range_over = over }) (choice_of oam objsel all)
  unfolding choice_of
  built all l e f s = rw (e, f, ← s.is_sprites, ← s.is_count, ← s.is_tiles)

module _ (oam : List ℕ) (row objsel start : ℕ) (interlace : Bool) where
  abbrev on : ℕ → Bool
  on i = in_range row objsel interlace (sprite_of oam i objsel)

  -- those found at the first k places of the search
  abbrev pub found_to : ℕ → List ℕ
  found_to k = found oam row objsel interlace (tab k (search_at start))

  pub found_none : found_to 0 ≡ []
  unfolding found
  found_none = rw (tab_none (search_at start)) (keep_none on)

  pub found_yes : (k : ℕ) → on (search_at start k) ≡ true → found_to (k + 1) ≡ found_to k ++ search_at start k ∷ []
  unfolding found
  found_yes k e = rw (tab_more (search_at start) k) (keep_yes on (tab k (search_at start)) (search_at start k) e)

  pub found_no : (k : ℕ) → on (search_at start k) ≡ false → found_to (k + 1) ≡ found_to k
  unfolding found
  found_no k e = rw (tab_more (search_at start) k) (keep_no on (tab k (search_at start)) (search_at start k) e)

  -- a 33rd: the rest of the search changes nothing of the first 32
  module _ (k : ℕ) (h : k < 128) (f : length (found_to k) ≡ 32) (e : on (search_at start k) ≡ true) where
    later : List ℕ
    later = keep on (tab (127 - k) (λ (i : ℕ). search_at start (k + 1 + i)))

    rest : List ℕ
    rest = search_at start k ∷ later

    all_found : found_to 128 ≡ found_to k ++ rest
    unfolding found rest later
    all_found =
        let n : 128 ≡ k + 1 + (127 - k) = omega arith in
        ap found_to n
        ∙ ap (keep on) (tab_split (search_at start) (k + 1) (127 - k))
        ∙ keep_append on (tab (k + 1) (search_at start)) (tab (127 - k) (λ (i : ℕ). search_at start (k + 1 + i)))
        ∙ ap (λ (l : List ℕ). l ++ later) (found_yes k e)
        ∙ append_assoc (found_to k) (search_at start k ∷ []) later

    pub first_32 : take 32 (found_to 128) ≡ found_to k
    first_32 = rw all_found (take_at (found_to k) rest 32 f)

    pub more_than_32 : ltb 32 (length (found_to 128)) ≡ true
    unfolding rest
    more_than_32 =
        let l : length (found_to k ++ rest) ≡ 32 + length rest = length-append (found_to k) rest ∙ ap (λ (n : ℕ). n + length rest) f in
        rw (all_found, l) (lt-ltb 32 (32 + length rest) (omega arith))
