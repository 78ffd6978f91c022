-- A picture's rows: what drawing one leaves of it and of the others, and that a picture is its rows.
use Rattle.std.specs.Prelude.{ℕ, ◌+◌, ◌-◌, ◌*◌, ◌/◌, ◌%◌, ◌<◌, ◌≤◌, min, ◌≡◌, refl, Bool, true, false, List, ◌++◌, ltb, length, take}
use Rattle.std.proofs.Common.{sym, ◌∙◌, arith, length-take, ext_get_or, get_or-append-add, ltb-true, ltb-false}
use Rattle.std.proofs.Math.Path.{ap}
use Rattle.std.proofs.Math.ListN.{get_or, drop, length-append, length-drop, get_or-append}
use Rattle.std.proofs.Math.Seq.{get_or-take, get_or-drop}
use Rattle.base_lists.specs.Tab.{tab}
use Rattle.base_lists.specs.theorems.Tab.{tab_ext, get_d_tab, by_get_d}
use Rattle.row_renderer.specs.Renderer.{with_row}
use Rattle.picture_rows.specs.Pictures.{row_part}
use Rattle.picture_rows.specs.Parts.{Whole}

-- the bytes of a part
part_is : (p : List ℕ) (y : ℕ) → Whole p → y < 224 → row_part p y ≡ tab 768 (λ j. get_or p (y * 768 + j) 0)
part_is p y w h =
    by_get_d 768 (λ j. get_or p (y * 768 + j) 0) (row_part p y) 0
    (length-take 768 (drop (y * 768) p) ∙ (ap (min 768) (length-drop (y * 768) p) ∙ omega arith))
    (λ j b. get_or-take 768 (drop (y * 768) p) j 0 b ∙ get_or-drop (y * 768) p j 0)

-- the same rows are the same picture
pub one_picture : (p q : List ℕ) → Whole p → Whole q → ((y : ℕ) → y < 224 → row_part p y ≡ row_part q y) → p ≡ q
one_picture p q w u e =
    ext_get_or 0 p q (w ∙ sym u)
    (λ i h.
    let y = i / 768 in
    let j = i % 768 in
    let b : y < 224 = omega arith in
    let at : y * 768 + j ≡ i = omega arith in
    let c : j < 768 = omega arith in
    let f : List ℕ → ℕ → ℕ = λ l k. get_or l (y * 768 + k) 0 in
    ap (λ (k : ℕ). get_or p k 0) (sym at)
    ∙ (sym (get_d_tab (f p) 768 j 0 c)
    ∙ (ap (λ (l : List ℕ). get_or l j 0) (sym (part_is p y w b) ∙ (e y b ∙ part_is q y u b))
    ∙ (get_d_tab (f q) 768 j 0 c ∙ ap (λ (k : ℕ). get_or q k 0) at))))

module _ (p row : List ℕ) (y : ℕ) (w : Whole p) (long : length row ≡ 768) (h : y < 224) where
  start : length (take (y * 768) p) ≡ y * 768
  start = length-take (y * 768) p ∙ omega arith

  -- every byte before row y's part is left
  pub before_row : (i : ℕ) → i < y * 768 → get_or (with_row p y row) i 0 ≡ get_or p i 0
  unfolding with_row
  before_row i b =
      get_or-append (take (y * 768) p) (row ++ drop (y * 768 + 768) p) 0 i (omega (arith, start)) ∙ get_or-take (y * 768) p i 0 b

  -- the part holds the row
  in_row : (j : ℕ) → j < 768 → get_or (with_row p y row) (y * 768 + j) 0 ≡ get_or row j 0
  unfolding with_row
  in_row j b =
      let rest = row ++ drop (y * 768 + 768) p in
      ap (λ (n : ℕ). get_or (take (y * 768) p ++ rest) (n + j) 0) (sym start)
      ∙ (get_or-append-add (take (y * 768) p) rest j 0 ∙ get_or-append row (drop (y * 768 + 768) p) 0 j (omega arith))

  -- and every byte after it is left
  after_add : (k : ℕ) → get_or (with_row p y row) (y * 768 + (768 + k)) 0 ≡ get_or p (y * 768 + 768 + k) 0
  unfolding with_row
  after_add k =
      let rest = row ++ drop (y * 768 + 768) p in
      ap (λ (n : ℕ). get_or (take (y * 768) p ++ rest) (n + (768 + k)) 0) (sym start)
      ∙ (get_or-append-add (take (y * 768) p) rest (768 + k) 0
      ∙ (ap (λ (n : ℕ). get_or rest (n + k) 0) (sym long)
      ∙ (get_or-append-add row (drop (y * 768 + 768) p) k 0 ∙ get_or-drop (y * 768 + 768) p k 0)))

  pub after_row : (i : ℕ) → y * 768 + 768 ≤ i → get_or (with_row p y row) i 0 ≡ get_or p i 0
  after_row i b =
      let k = i - (y * 768 + 768) in
      let there : y * 768 + (768 + k) ≡ i = omega arith in
      let here : y * 768 + 768 + k ≡ i = omega arith in
      ap (λ (n : ℕ). get_or (with_row p y row) n 0) (sym there) ∙ (after_add k ∙ ap (λ (n : ℕ). get_or p n 0) here)

  -- the picture keeps its length
  pub whole_with : Whole (with_row p y row)
  unfolding with_row
  whole_with =
      length-append (take (y * 768) p) (row ++ drop (y * 768 + 768) p)
      ∙ ((λ i. start i + (length-append row (drop (y * 768 + 768) p) ∙ (λ j. long j + length-drop (y * 768 + 768) p j)) i)
      ∙ omega arith)

  -- row y is the row drawn
  pub own_row : row_part (with_row p y row) y ≡ row
  own_row =
      part_is (with_row p y row) y whole_with h
      ∙ (tab_ext 768 (λ j. get_or (with_row p y row) (y * 768 + j) 0) (λ j. get_or row j 0) in_row
      ∙ sym (by_get_d 768 (λ j. get_or row j 0) row 0 long (λ j b. refl)))

  -- and every other row is left
  pub other_row : (z : ℕ) → z < 224 → (z ≡ y → ⊥) → row_part (with_row p y row) z ≡ row_part p z
  other_row z g apart =
      part_is (with_row p y row) z whole_with g
      ∙ (tab_ext 768 (λ j. get_or (with_row p y row) (z * 768 + j) 0) (λ j. get_or p (z * 768 + j) 0) (by_side (ltb z y) refl)
      ∙ sym (part_is p z w g))
    where
      by_side : (t : Bool) → ltb z y ≡ t → (j : ℕ) → j < 768 → get_or (with_row p y row) (z * 768 + j) 0 ≡ get_or p (z * 768 + j) 0
      by_side true e j b = let l = ltb-true z y e in before_row (z * 768 + j) (omega arith)
      by_side false e j b = let l = ltb-false z y e in after_row (z * 768 + j) (omega (arith, apart))
