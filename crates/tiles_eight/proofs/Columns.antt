-- The columns of a tile's row, and the colour index of each in the words of n plane pairs: that of the tile over n pairs.
use Prim.Native.Nat.{ℕ, zero, suc, ◌+◌, ◌*◌, ◌^◌, ◌<◌, ◌≤◌}
use mathlib.Core.Path.{◌≡◌, refl, sym, subst, ◌∙◌}
use mathlib.Core.Bool.{Bool, true, false}
use mathlib.Core.List.{List}
use native.Mathlib.Omega.{arith}
use lib.ListN.{get_or}
use Rattle.base_lists.specs.Tab.{tab}
use Rattle.base_lists.specs.theorems.Tab.{get_d_tab}
use Rattle.tiles.specs.Tiles.{plane_word, two_bits, index_of, mirrored}
use Rattle.tiles_eight.specs.steps.Shades.{index_in}

small : (flip : Bool) (k : ℕ) → k < 8 → mirrored k 8 flip < 8
small true k h = omega arith
small false k h = h

module _ (flip : Bool) {l : List ℕ} (e : l ≡ tab 8 (λ k. mirrored k 8 flip)) (k : ℕ) (h : k < 8) where
  column_is : get_or l k 0 ≡ mirrored k 8 flip
  column_is = (λ i. get_or (e i) k 0) ∙ get_d_tab (λ j. mirrored j 8 flip) 8 k 0 h

  pub column_small : get_or l k 0 < 8
  column_small = subst (λ (n : ℕ). n < 8) (sym column_is) (small flip k h)

module _ (v : List ℕ) (base y n : ℕ) (flip : Bool) where
  abbrev those : List ℕ
  those = tab n (plane_word v base y)

  over_first : (x m : ℕ) → m ≤ n → index_in those x m ≡ index_of v base x y m
  unfolding index_in index_of
  over_first x zero h = refl
  over_first x (suc m) h =
      λ i. over_first x m (omega arith) i + 4 ^ m * two_bits (get_d_tab (plane_word v base y) n m 0 (omega arith) i) x

  pub index_is : {words cols : List ℕ} → words ≡ those → cols ≡ tab 8 (λ k. mirrored k 8 flip) → (k : ℕ) → k < 8 →
      index_in words (get_or cols k 0) n ≡ index_of v base (mirrored k 8 flip) y n
  index_is w d k h = (λ i. index_in (w i) (column_is flip d k h i) n) ∙ over_first (mirrored k 8 flip) n (omega arith)
