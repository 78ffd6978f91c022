-- Of two sprites at one pixel the first chosen wins, whatever their priority bits.
use Rattle.std.specs.Prelude.{ℕ, ◌+◌, ◌-◌, ◌/◌, ◌≡◌, Bool, true, ◌||◌, length, eqb}
use Rattle.std.proofs.Math.Path.{refl, sym}
use Rattle.std.proofs.Common.{◌∙◌}
use Rattle.std.proofs.Math.Bool.{false, cond}
use mathlib.Core.List.{List, [], ◌∷◌, ◌++◌, map, append-nil}
use Rattle.std.proofs.Math.ListN.{take, length-append}
use Rattle.std.proofs.lemmas.List.{length-map}
use Rattle.oam.specs.declared.Sprite.{Sprite}
use Rattle.line_pixels.specs.declared.Candidate.{Candidate}
use Rattle.line_pixels.specs.Pixels.{none}
use Rattle.sprite_tile.specs.declared.View.{View}
use Rattle.sprite_tile.specs.Tile.{line_in, pixel_in}
use Rattle.sprite_fetch.specs.Fetch.{tile, counting_places, counting_tiles, fetch_order, fetched_of, among, across, fetched_pixel, line_pixel}
use Rattle.sprite_fetch.specs.steps.Turns.{leaves, own_places}
use Rattle.sprite_fetch.specs.Wins.{has_at, Clear, with_priority, but_priority, given}

module _ (v g : List ℕ) (view : View) (limit x : ℕ) where
  -- The sprite line shows the opaque pixel of a sprite before which no chosen sprite has one. What was chosen after it, and the
  -- priority of any sprite, has no effect.
  pub first_chosen_wins : (l : List Sprite) (s : Sprite) (later : List Sprite) → Clear v g view limit x l (s ∷ later) → (has_at v g view limit x s later).opaque ≡ true →
      line_pixel v g view limit (l ++ s ∷ later) x ≡ has_at v g view limit x s later
  unfolding line_pixel
  first_chosen_wins [] s later c e = λ i. cond (e i) (has_at v g view limit x s later) (line_pixel v g view limit later x)
  first_chosen_wins (t ∷ l) s later c e =
      (λ i. cond (c.0 i) (has_at v g view limit x t (l ++ s ∷ later)) (line_pixel v g view limit (l ++ s ∷ later) x))
      ∙ first_chosen_wins l s later c.1 e

  -- and nothing where no chosen sprite has one
  pub none_seen : (l : List Sprite) → Clear v g view limit x l [] → line_pixel v g view limit l x ≡ none
  unfolding line_pixel
  none_seen [] c = refl
  none_seen (s ∷ l) c =
      (λ i. cond (alone i) (has_at v g view limit x s l) (line_pixel v g view limit l x)) ∙ none_seen l c.1
    where
      alone : ((has_at v g view limit x) s l).opaque ≡ false
      alone = (λ i. (has_at v g view limit x s (sym (append-nil l) i)).opaque) ∙ c.0

but_over : (c d : Candidate) (t : Bool) → but_priority (cond t c d) ≡ cond t (but_priority c) (but_priority d)
but_over c d true = refl
but_over c d false = refl

-- which places are among a sprite's tiles does not depend on the sprite
among_any : (s t : Sprite) (l : List ℕ) (n : ℕ) → among (map (tile s) l) n ≡ among (map (tile t) l) n
unfolding among
among_any s t [] n = refl
among_any s t (k ∷ l) n = λ i. eqb k n || among_any s t l n i

module _ (p : Sprite → ℕ) where
  -- they count the same tiles
  same_places : (objsel : ℕ) (s : Sprite) → counting_places objsel (with_priority (p s) s) ≡ counting_places objsel s
  unfolding counting_places
  same_places objsel s = refl

  many : (objsel : ℕ) (s : Sprite) → length (counting_tiles objsel (with_priority (p s) s)) ≡ length (counting_tiles objsel s)
  many objsel s =
      length-map (counting_places objsel (with_priority (p s) s)) (tile (with_priority (p s) s))
      ∙ ((λ i. length (same_places objsel s i)) ∙ sym (length-map (counting_places objsel s) (tile s)))

  as_many : (objsel : ℕ) (l : List Sprite) → length (fetch_order objsel (given p l)) ≡ length (fetch_order objsel l)
  unfolding fetch_order
  as_many objsel [] = refl
  as_many objsel (s ∷ l) =
      length-append (fetch_order objsel (given p l)) (counting_tiles objsel (with_priority (p s) s))
      ∙ ((λ i. as_many objsel l i + many objsel s i) ∙ sym (length-append (fetch_order objsel l) (counting_tiles objsel s)))

  module _ (v g : List ℕ) (view : View) (limit x : ℕ) where
    same_pixel : (s : Sprite) (n : ℕ) → but_priority (pixel_in v g view (with_priority (p s) s) n) ≡ but_priority (pixel_in v g view s n)
    unfolding pixel_in line_in
    same_pixel s n = refl

    same_fetched : (s : Sprite) (later : List Sprite) →
        but_priority (has_at v g view limit x (with_priority (p s) s) (given p later)) ≡ but_priority (has_at v g view limit x s later)
    unfolding fetched_pixel
    same_fetched s later =
        let o = view.objsel in
        let q = with_priority (p s) s in
        let n = across s x in
        let ts = take (leaves limit o s later) (counting_places o s) in
        let mine : fetched_of limit o q (given p later) ≡ map (tile q) ts =
        own_places limit o q (given p later) ∙ (λ i. map (tile q) (take (limit - as_many o later i) (same_places o s i))) in
        (λ i. but_priority (cond (among (mine i) (n / 8)) (pixel_in v g view q n) none))
        ∙ (but_over (pixel_in v g view q n) none (among (map (tile q) ts) (n / 8))
        ∙ ((λ i. cond (among_any q s ts (n / 8) i) (same_pixel s n i) (but_priority none))
        ∙ (sym (but_over (pixel_in v g view s n) none (among (map (tile s) ts) (n / 8)))
        ∙ (λ i. but_priority (cond (among (sym (own_places limit o s later) i) (n / 8)) (pixel_in v g view s n) none)))))

    -- Whatever priority bits the chosen sprites have, the sprite line has the same pixels, but for their priorities.
    pub priority_never_decides : (l : List Sprite) →
        but_priority (line_pixel v g view limit (given p l) x) ≡ but_priority (line_pixel v g view limit l x)
    unfolding line_pixel
    priority_never_decides [] = refl
    priority_never_decides (s ∷ later) =
        let a = has_at v g view limit x (with_priority (p s) s) (given p later) in
        let b = has_at v g view limit x s later in
        but_over a (line_pixel v g view limit (given p later) x) a.opaque
        ∙ ((λ i. cond (same_fetched s later i).opaque (same_fetched s later i) (priority_never_decides later i))
        ∙ sym (but_over b (line_pixel v g view limit later x) b.opaque))
