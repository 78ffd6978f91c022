-- The loops of `draw`: what one more pixel of a tile does to the line, and one more tile.
use Prim.Native.Nat.{ℕ, ◌+◌, ◌%◌, ◌<◌, ◌≤◌}
use mathlib.Core.Path.{◌≡◌, refl, sym, ap, subst, ◌∙◌}
use mathlib.Core.Bool.{Bool, true, false}
use mathlib.Core.List.{List, [], ◌∷◌, ◌++◌}
use native.Mathlib.Omega.{arith}
use native.Mathlib.Numerals.{add-one}
use lib.ListN.{length, get_or, set, take, replicate, length-take}
use lib.Seq.{take-suc, get_or-take}
use lib.Dec.{ltb, eqb}
use borrow.Author.Tests.{lt-ltb, le-ltb, ltb-true, ltb-false, eq-eqb, ne_eqb, eqb-true, eqb-false}
use Rattle.base_lists.specs.Tab.{tab}
use Rattle.base_lists.specs.theorems.Tab.{tab_ext, tab_set, tab_same}
use Rattle.line_pixels.specs.declared.Candidate.{Candidate}
use Rattle.line_pixels.specs.Pixels.{none}
use Rattle.tiles.specs.declared.BitDepth.TheVariants.{Four}
use Rattle.tiles_row.specs.steps.Rows.{row_index}
use Rattle.sprite_tile.specs.declared.PlacedRow.{PlacedRow}
use Rattle.sprite_tile.specs.Tile.{sprite_colours, sprite_pixel_of}
use Rattle.sprite_tile.specs.steps.Placed.{PlacedSound}
use Rattle.sprite_fetch.specs.steps.Walk.{blank_row, AllSound, offset_in, drawn_to, drawn_all, drawn_line}

-- each of the tiles that a loop goes through has its fields in their ranges
pub sound_at : (n : ℕ) (rows : List PlacedRow) {l : List PlacedRow} → AllSound n rows → l ≡ take n rows → (i : ℕ) → i < length l → PlacedSound (get_or l i blank_row)
sound_at n rows {l} s e i h =
    let low : i < n = omega (arith, ap length e, length-take n rows) in
    subst (λ (t : PlacedRow). PlacedSound t) (sym (ap (λ (m : List PlacedRow). get_or m i blank_row) e ∙ get_or-take n rows i blank_row low)) (s i low)

-- below k + 1 and not k: below k
below_other : (a k : ℕ) → (a ≡ k → ⊥) → ltb a k ≡ ltb a (k + 1)
below_other a k d = by_cases (ltb a k) refl
  where
    by_cases : (t : Bool) → ltb a k ≡ t → ltb a k ≡ ltb a (k + 1)
    by_cases true e = let h : a < k = ltb-true a k e in e ∙ sym (lt-ltb a (k + 1) (omega arith))
    by_cases false e = let h : k ≤ a = ltb-false a k e in e ∙ sym (le-ltb a (k + 1) (omega (arith, d)))

module _ (v g : List ℕ) (s : PlacedRow) where
  -- what the columns hold after the tile's first k pixels, from what they held before
  abbrev pub after : (ℕ → Candidate) → ℕ → ℕ → Candidate
  after held k x = drawn_to v g s k x (held x)

  pub after_none : (held : ℕ → Candidate) → tab 256 held ≡ tab 256 (after held 0)
  unfolding drawn_to
  after_none held = tab_ext 256 held (after held 0) (λ x h. rw (le-ltb (offset_in s x) 0 (omega arith)))

  module _ (held : ℕ → Candidate) (k : ℕ) where
    -- a column that is not the pixel's
    pub other : (x : ℕ) → (offset_in s x ≡ k → ⊥) → after held k x ≡ after held (k + 1) x
    unfolding drawn_to
    other x d = rw (below_other (offset_in s x) k d)

    -- the pixel's column, where it is clear
    clear_at : (x : ℕ) → row_index v Four s.tile k ≡ 0 → offset_in s x ≡ k → after held k x ≡ after held (k + 1) x
    unfolding drawn_to
    clear_at x z e =
        rw (e, le-ltb k k (omega arith), lt-ltb k (k + 1) (omega arith), eq-eqb (row_index v Four s.tile k) 0 z)

    -- and where it is opaque
    set_at : (x : ℕ) → (row_index v Four s.tile k ≡ 0 → ⊥) → offset_in s x ≡ k →
        sprite_pixel_of (sprite_colours g s.tile.palette) s.tile.palette s.tile.z (row_index v Four s.tile k) ≡ after held (k + 1) x
    unfolding drawn_to
    set_at x z e = rw (e, lt-ltb k (k + 1) (omega arith), ne_eqb (row_index v Four s.tile k) 0 z)

    either : (x : ℕ) → row_index v Four s.tile k ≡ 0 → after held k x ≡ after held (k + 1) x
    either x z = by_cases (eqb (offset_in s x) k) refl
      where
        by_cases : (t : Bool) → eqb (offset_in s x) k ≡ t → after held k x ≡ after held (k + 1) x
        by_cases true e = clear_at x z (eqb-true (offset_in s x) k e)
        by_cases false e = other x (eqb-false (offset_in s x) k e)

    pub clear : row_index v Four s.tile k ≡ 0 → tab 256 (after held k) ≡ tab 256 (after held (k + 1))
    clear z = tab_ext 256 (after held k) (after held (k + 1)) (λ x h. either x z)

    module _ (nine : s.tile_x < 512) (low : k < 8) where
      there : (x : ℕ) → x < 256 → offset_in s x ≡ k → x ≡ (s.tile_x + k) % 512
      there x h e = omega arith

      here : (x : ℕ) → x < 256 → x ≡ (s.tile_x + k) % 512 → offset_in s x ≡ k
      here x h e = omega arith

      -- a pixel beyond the picture
      pub beyond : 256 ≤ (s.tile_x + k) % 512 → tab 256 (after held k) ≡ tab 256 (after held (k + 1))
      beyond b =
          tab_ext 256 (after held k) (after held (k + 1))
          (λ x h. other x (λ e. let d = there x h e in absurd (omega arith)))

      -- an opaque one in it
      pub drawn : (s.tile_x + k) % 512 < 256 → (row_index v Four s.tile k ≡ 0 → ⊥) →
          set (tab 256 (after held k)) ((s.tile_x + k) % 512) (sprite_pixel_of (sprite_colours g s.tile.palette) s.tile.palette s.tile.z (row_index v Four s.tile k))
          ≡ tab 256 (after held (k + 1))
      drawn b z =
          let j = (s.tile_x + k) % 512 in
          tab_set 256 (after held k) (after held (k + 1)) j _ b (set_at j z (here j b refl))
          (λ x h d. other x (λ e. d (there x h e)))

module _ (v g : List ℕ) where
  -- a line of no candidate
  pub drawn_none : {p : Candidate} → p ≡ none → replicate 256 p ≡ drawn_line v g []
  unfolding drawn_all
  drawn_none e = tab_same 256 e

  pub drawn_append : (l m : List PlacedRow) (x : ℕ) (h : Candidate) → drawn_all v g (l ++ m) x h ≡ drawn_all v g m x (drawn_all v g l x h)
  unfolding drawn_all
  drawn_append [] m x h = refl
  drawn_append (s ∷ l) m x h = drawn_append l m x (drawn_to v g s 8 x h)

  one : (s : PlacedRow) (x : ℕ) (h : Candidate) → drawn_to v g s 8 x h ≡ drawn_all v g (s ∷ []) x h
  unfolding drawn_all
  one s x h = refl

  -- one more tile
  pub drawn_more : (l : List PlacedRow) (i : ℕ) → i < length l →
      tab 256 (after v g (get_or l i blank_row) (λ x. drawn_all v g (take i l) x none) 8) ≡ drawn_line v g (take (i + 1) l)
  drawn_more l i h =
      tab_ext 256 _ _
      (λ x b. one (get_or l i blank_row) x (drawn_all v g (take i l) x none)
      ∙ (sym (drawn_append (take i l) (get_or l i blank_row ∷ []) x none)
      ∙ (λ j. drawn_all v g ((sym (take-suc l i blank_row h) ∙ ap (λ (n : ℕ). take n l) (sym (add-one i))) j) x none)))
