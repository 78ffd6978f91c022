-- Lists whose elements are changed by a rule f.
use Prim.Native.Nat.{ℕ, zero, suc}
use Rattle.std.specs.Prelude.{◌≡◌, get_or, replicate, take, drop}
use Rattle.std.proofs.Math.Path.{refl}
use Rattle.std.proofs.Common.{◌∙◌}
use mathlib.Core.List.{[], ◌∷◌, ◌++◌, List, map, map-append}
use Rattle.base_lists.specs.Tab.{tab}
use Rattle.base_lists.specs.theorems.Each.{take_map, drop_map, get_d_map}

module _ {A B : Type 0} (f : A → B) where
  -- the list by a rule g, changed, is the list by g and then f
  pub map_tab : (n : ℕ) (g : ℕ → A) → map f (tab n g) ≡ tab n (λ i. f (g i))
  unfolding tab
  map_tab zero g = refl
  map_tab (suc n) g = map-append f (tab n g) (g n ∷ []) ∙ (λ i. map_tab n g i ++ f (g n) ∷ [])

  -- one element over and over is the changed one over and over
  pub map_replicate : (n : ℕ) (a : A) → map f (replicate n a) ≡ replicate n (f a)
  map_replicate zero a = refl
  map_replicate (suc n) a = λ i. f a ∷ map_replicate n a i

  -- an element of a part of the list: n elements from place k
  pub part_map : (n k : ℕ) (l : List A) (i : ℕ) (d : A) →
      get_or (take n (drop k (map f l))) i (f d) ≡ f (get_or (take n (drop k l)) i d)
  part_map n k l i d =
      (λ j. get_or (take n (drop_map f k l j)) i (f d))
      ∙ ((λ j. get_or (take_map f n (drop k l) j) i (f d)) ∙ get_d_map f (take n (drop k l)) i d)
