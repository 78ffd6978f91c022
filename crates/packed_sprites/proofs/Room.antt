-- The line with room for eight columns on both sides of the picture: what it shows, and what one more pixel of a tile does to it.
use Prim.Native.Nat.{ℕ, ◌+◌, ◌%◌, ◌<◌, ◌≤◌}
use mathlib.Core.Path.{◌≡◌, refl, sym, ap, ◌∙◌}
use mathlib.Core.Bool.{Bool, true, false, cond, not}
use mathlib.Core.List.{List, [], ◌∷◌}
use native.Mathlib.Omega.{arith}
use native.Mathlib.Numerals.{add-one}
use lib.ListN.{length, get_or, set, take, replicate, length-set, length-replicate, get_or-replicate}
use lib.Seq.{take-suc, get_or-set_same, get_or-set_other}
use lib.Dec.{eqb}
use borrow.Author.Tests.{lt-ltb, le-ltb, eqb-true, eqb-false}
use Rattle.line_pixels.specs.declared.Candidate.{Candidate}
use Rattle.line_pixels.specs.Pixels.{none}
use Rattle.packed_pixels.specs.steps.Packed.{packed_if}
use Rattle.tiles.specs.declared.BitDepth.TheVariants.{Four}
use Rattle.tiles_row.specs.steps.Rows.{row_index}
use Rattle.sprite_tile.specs.declared.PlacedRow.{PlacedRow}
use Rattle.sprite_tile.specs.Tile.{sprite_colours, sprite_pixel_of}
use Rattle.sprite_fetch.specs.steps.Walk.{blank_row, offset_in, drawn_to, drawn_all}
use Rattle.sprite_fetch.proofs.Draws.{after, other, drawn_append}
use Rattle.packed_sprites.proofs.Over.{over_is}

-- column x stands at x + 8
pub record Shows (rule : ℕ → Candidate) (line : List ℕ) : Type 0 where
  pub long : length line ≡ 272
  pub at : (x : ℕ) → x < 256 → get_or line (x + 8) 0 ≡ packed_if (rule x)

pub shows_none : (rule : ℕ → Candidate) → ((x : ℕ) → rule x ≡ none) → Shows rule (replicate 272 0)
unfolding packed_if
shows_none rule e = record {
  long = length-replicate {A = ℕ} 272 0;
  at = λ x h. get_or-replicate {A = ℕ} 272 (x + 8) 0 0 (omega arith) ∙ sym (ap packed_if (e x));
}

pub shows_ext : {f g : ℕ → Candidate} {line : List ℕ} → Shows f line → ((x : ℕ) → x < 256 → f x ≡ g x) → Shows g line
shows_ext s e = record { long = s.long; at = λ x h. s.at x h ∙ ap packed_if (e x h) }

module _ (v g : List ℕ) (s : PlacedRow) (held : ℕ → Candidate) (nine : s.tile_x < 512) where
  -- before the tile's first pixel
  pub after_first : (x : ℕ) → held x ≡ after v g s held 0 x
  unfolding drawn_to
  after_first x = rw (le-ltb (offset_in s x) 0 (omega arith))

  -- a tile that does not meet the picture
  pub after_outside : 264 ≤ (s.tile_x + 8) % 512 → (x : ℕ) → x < 256 → held x ≡ after v g s held 8 x
  unfolding drawn_to
  after_outside far x h = rw (le-ltb (offset_in s x) 8 (omega arith))

  module _ (k : ℕ) (low : k < 8) (near : (s.tile_x + 8) % 512 < 264) where
    abbrev place : ℕ
    place = (s.tile_x + 8) % 512 + k

    there : (x : ℕ) → x < 256 → offset_in s x ≡ k → x + 8 ≡ place
    there x h e = omega arith

    here : (x : ℕ) → x < 256 → x + 8 ≡ place → offset_in s x ≡ k
    here x h e = omega arith

    abbrev pixel : Candidate
    pixel = sprite_pixel_of (sprite_colours g s.tile.palette) s.tile.palette s.tile.z (row_index v Four s.tile k)

    -- the pixel's column
    drawn_at : (x : ℕ) → offset_in s x ≡ k → cond pixel.opaque pixel (after v g s held k x) ≡ after v g s held (k + 1) x
    unfolding drawn_to
    drawn_at x e = rw (e, le-ltb k k (omega arith), lt-ltb k (k + 1) (omega arith))

    pub shows_more : {line : List ℕ} {p : ℕ} → Shows (after v g s held k) line → p ≡ packed_if pixel →
        Shows (after v g s held (k + 1)) (set line place (cond (not (eqb p 0)) p (get_or line place 0)))
    shows_more {line} {p} w e = record {
      long = length-set line place _ ∙ w.long;
      at = λ x h. by_place x h (eqb (x + 8) place) refl;
    }
      where
        by_place : (x : ℕ) → x < 256 → (t : Bool) → eqb (x + 8) place ≡ t →
            get_or (set line place (cond (not (eqb p 0)) p (get_or line place 0))) (x + 8) 0 ≡ packed_if (after v g s held (k + 1) x)
        by_place x h true d =
            let same : x + 8 ≡ place = eqb-true (x + 8) place d in
            let within : place < length line = omega (arith, w.long) in
            ap (λ (i : ℕ). get_or (set line place (cond (not (eqb p 0)) p (get_or line place 0))) i 0) same
            ∙ (get_or-set_same line place _ 0 within
            ∙ ((λ i. cond (not (eqb (e i) 0)) (e i) ((ap (λ (j : ℕ). get_or line j 0) (sym same) ∙ w.at x h) i))
            ∙ (over_is pixel (after v g s held k x)
            ∙ ap packed_if (drawn_at x (here x h same)))))
        by_place x h false d =
            let apart : x + 8 ≡ place → ⊥ = eqb-false (x + 8) place d in
            get_or-set_other line place (x + 8) _ 0 apart
            ∙ (w.at x h ∙ ap packed_if (other v g s held k x (λ i. apart (there x h i))))

module _ (v g : List ℕ) where
  one : (s : PlacedRow) (x : ℕ) (h : Candidate) → drawn_to v g s 8 x h ≡ drawn_all v g (s ∷ []) x h
  unfolding drawn_all
  one s x h = refl

  -- before the first tile
  pub none_drawn : (x : ℕ) → drawn_all v g [] x none ≡ none
  unfolding drawn_all
  none_drawn x = refl

  -- one more tile
  pub tile_more : (l : List PlacedRow) (i : ℕ) → i < length l → (x : ℕ) →
      after v g (get_or l i blank_row) (λ n. drawn_all v g (take i l) n none) 8 x ≡ drawn_all v g (take (i + 1) l) x none
  tile_more l i h x =
      one (get_or l i blank_row) x (drawn_all v g (take i l) x none)
      ∙ (sym (drawn_append v g (take i l) (get_or l i blank_row ∷ []) x none)
      ∙ (λ j. drawn_all v g ((sym (take-suc l i blank_row h) ∙ ap (λ (n : ℕ). take n l) (sym (add-one i))) j) x none))
