-- Different rows, each with its own scene, leave the same picture in any order, and a row drawn again shows its last drawing
-- (demand 3).
use Rattle.std.specs.Prelude.{ℕ, ◌<◌, ◌≡◌, refl, Bool, true, false, cond, eqb, ltb}
use Rattle.std.proofs.Common.{sym, ◌∙◌, ⊎_elim, eqb-true, eq-eqb, ltb-true}
use Rattle.std.proofs.Math.Path.{ap}
use Rattle.std.proofs.lemmas.Bool.{false≢true, eqb-false}
use mathlib.Core.List.Memᴰ
use mathlib.Core.List.{List, [], ◌∷◌, ◌++◌, Memᴰ}
use Rattle.std.proofs.Math.ListN.{length}
use Rattle.base_refusal.specs.Answer.{Answer, value, refused, outcome}
use Rattle.base_lists.specs.Keep.{keep}
use Rattle.base_lists.specs.theorems.Keep.{keep_yes, kept_in, in_kept}
use Rattle.row_tests.specs.Tests.{draw_tests}
use Rattle.row_renderer.specs.Renderer.{with_row}
use Rattle.row_renderer.specs.theorems.Renderer.{length_row}
use Rattle.picture_rows.specs.Pictures.{row_part}
use Rattle.picture_rows.specs.Parts.{Whole}
use Rattle.picture_rows.specs.theorems.Parts.{one_picture, whole_with, own_row, other_row}
use Rattle.picture_rows.specs.Drawings.{Drawing, bytes_of, draw_all, last_of, Rows, DifferentRows, Within, DrawCalls, accepts, drawable, accepted, none, call}

module _ (d : Drawing) (p : List ℕ) (w : Whole p) (h : d.row < 224) where
  whole_after : Whole (with_row p d.row (bytes_of d))
  whole_after = whole_with p (bytes_of d) d.row w (length_row d.scene d.row) h

  row_after : (y : ℕ) → y < 224 → row_part (with_row p d.row (bytes_of d)) y ≡ cond (eqb d.row y) (bytes_of d) (row_part p y)
  row_after y g = by_test (eqb d.row y) refl
    where
      by_test : (t : Bool) → eqb d.row y ≡ t → row_part (with_row p d.row (bytes_of d)) y ≡ cond t (bytes_of d) (row_part p y)
      by_test true e =
          ap (row_part (with_row p d.row (bytes_of d))) (sym (eqb-true d.row y e))
          ∙ own_row p (bytes_of d) d.row w (length_row d.scene d.row) h
      by_test false e =
          other_row p (bytes_of d) d.row w (length_row d.scene d.row) h y g (λ q. eqb-false d.row y e (sym q))

whole_all : (ds : List Drawing) (p : List ℕ) → Whole p → Rows ds → Whole (draw_all ds p)
unfolding draw_all
whole_all [] p w r = w
whole_all (d ∷ ds) p w r = whole_all ds (with_row p d.row (bytes_of d)) (whole_after d p w r.0) r.1

-- Each row shows its last drawing, or what it showed before where it was not drawn.
pub last_shows : (ds : List Drawing) (p : List ℕ) → Whole p → Rows ds → (y : ℕ) → y < 224 →
    row_part (draw_all ds p) y ≡ last_of ds y (row_part p y)
unfolding draw_all last_of
last_shows [] p w r y h = refl
last_shows (d ∷ ds) p w r y h =
    last_shows ds (with_row p d.row (bytes_of d)) (whole_after d p w r.0) r.1 y h ∙ ap (last_of ds y) (row_after d p w r.0 y h)

-- So drawings with the same last ones leave the same picture.
pub same_last : (ds es : List Drawing) (p : List ℕ) → Whole p → Rows ds → Rows es →
    ((y : ℕ) → y < 224 → last_of ds y (row_part p y) ≡ last_of es y (row_part p y)) → draw_all ds p ≡ draw_all es p
same_last ds es p w r t e =
    one_picture (draw_all ds p) (draw_all es p) (whole_all ds p w r) (whole_all es p w t)
    (λ y h. last_shows ds p w r y h ∙ (e y h ∙ sym (last_shows es p w t y h)))

-- the last drawing is one of them, or there is none
data Found (ds : List Drawing) (y : ℕ) (held out : List ℕ) : Type 0 where
  untouched : ((d : Drawing) → Memᴰ d ds → d.row ≡ y → ⊥) → out ≡ held → Found ds y held out
  drawn : (d : Drawing) → Memᴰ d ds → d.row ≡ y → out ≡ bytes_of d → Found ds y held out

found : (ds : List Drawing) (y : ℕ) (held : List ℕ) → Found ds y held (last_of ds y held)
unfolding last_of
found [] y held = untouched (λ d m. absurd (Memᴰ.not-nil m)) refl
found (d ∷ ds) y held = by_test (eqb d.row y) refl (found ds y (cond (eqb d.row y) (bytes_of d) held))
  where
    by_test : {out : List ℕ} (t : Bool) → eqb d.row y ≡ t → Found ds y (cond t (bytes_of d) held) out → Found (d ∷ ds) y held out
    by_test t e (drawn c m q o) = drawn c (Memᴰ.tail m) q o
    by_test true e (untouched n o) = drawn d (Memᴰ.head refl) (eqb-true d.row y e) o
    by_test false e (untouched n o) =
        untouched
        (λ c m q. ⊎_elim (λ s. eqb-false d.row y e (sym (λ i. (s i).row) ∙ q)) (λ t. n c t q) (Memᴰ.cases_cons m)) o

-- Different rows, each with its own scene, leave the same picture in any drawing order.
pub any_drawing_order : (ds es : List Drawing) (p : List ℕ) → Whole p → Rows ds → Rows es → DifferentRows ds → Within ds es →
    Within es ds → draw_all ds p ≡ draw_all es p
any_drawing_order ds es p w r t one to back =
    same_last ds es p w r t (λ y h. agree (found ds y (row_part p y)) (found es y (row_part p y)))
  where
    agree : {y : ℕ} {held a b : List ℕ} → Found ds y held a → Found es y held b → a ≡ b
    agree (untouched n o) (untouched m q) = o ∙ sym q
    agree (untouched n o) (drawn e m s q) = absurd (n e (back e m) s)
    agree (drawn d m s o) (untouched n q) = absurd (n d (to d m) s)
    agree (drawn d m s o) (drawn e n u q) = o ∙ (ap bytes_of (one d e m (back e n) (s ∙ sym u)) ∙ sym q)

-- A row drawn again shows its last drawing, whatever was drawn before it.
ends : (ds : List Drawing) (d : Drawing) (held : List ℕ) → last_of (ds ++ d ∷ []) d.row held ≡ bytes_of d
unfolding last_of
ends [] d held = λ i. cond (eq-eqb d.row d.row refl i) (bytes_of d) held
ends (c ∷ ds) d held = ends ds d (cond (eqb c.row d.row) (bytes_of c) held)

pub drawn_again : (ds : List Drawing) (d : Drawing) (p : List ℕ) → Whole p → Rows (ds ++ d ∷ []) → d.row < 224 →
    row_part (draw_all (ds ++ d ∷ []) p) d.row ≡ bytes_of d
drawn_again ds d p w r h = last_shows (ds ++ d ∷ []) p w r d.row h ∙ ends ds d (row_part p d.row)

row_below : (d : Drawing) → drawable d ≡ true → d.row < 224
row_below d e = by_test (ltb d.row 224) refl
  where
    by_test : (t : Bool) → ltb d.row 224 ≡ t → d.row < 224
    by_test true f = ltb-true d.row 224 f
    by_test false f = absurd (false≢true (rw f at e))

rows_below : (ds : List Drawing) → Rows (accepted ds)
unfolding keep
rows_below [] = tt
rows_below (d ∷ ds) = by_test (drawable d) refl (rows_below ds)
  where
    by_test : (t : Bool) → drawable d ≡ t → Rows (accepted ds) → Rows (cond t (d ∷ accepted ds) (accepted ds))
    by_test true e r = (row_below d e, r)
    by_test false e r = r

within_accepted : (ds es : List Drawing) → Within ds es → Within (accepted ds) (accepted es)
within_accepted ds es to d m = let k = kept_in drawable ds m in in_kept drawable es k.1 (to d k.0)

-- one call, and those after it
module _ {q after : List ℕ} (p : List ℕ) (d : Drawing) (ds : List Drawing) (w : Whole p)
    (later : Whole after → q ≡ draw_all (accepted ds) after) where
  then_draw : (t : Answer Unit) → (accepts t ≡ true → d.row < 224) →
      after ≡ (outcome {A = Unit} t tt (with_row p d.row (bytes_of d)) p).left →
      q ≡ draw_all (cond (accepts t) (d ∷ accepted ds) (accepted ds)) p
  unfolding draw_all
  then_draw (value u) b is =
      later (ap (λ (l : List ℕ). length l) is ∙ whole_after d p w (b refl)) ∙ ap (draw_all (accepted ds)) is
  then_draw (refused n) b is = later (ap (λ (l : List ℕ). length l) is ∙ w) ∙ ap (draw_all (accepted ds)) is

-- so the calls leave what their drawings leave
pub calls_draw : {p q : List ℕ} (ds : List Drawing) → Whole p → DrawCalls p ds q → q ≡ draw_all (accepted ds) p
unfolding draw_all keep
calls_draw [] w none = refl
calls_draw {p} (d ∷ ds) w (call v after c r) =
    let test = draw_tests d.scene d.row in
    then_draw p d ds w (λ u. calls_draw ds u r) (test true) (row_below d)
    ((λ i. (c i).left) ∙ (λ i. (outcome {A = Unit} (test (eq-eqb (length p) 172032 w i)) tt (with_row p d.row (bytes_of d)) p).left))

-- Each row of the picture that calls leave shows its last drawing, or what it showed before where it was not drawn.
pub calls_show : {p q : List ℕ} (ds : List Drawing) → Whole p → DrawCalls p ds q → (y : ℕ) → y < 224 →
    row_part q y ≡ last_of (accepted ds) y (row_part p y)
calls_show {p} ds w c y h =
    ap (λ (l : List ℕ). row_part l y) (calls_draw ds w c) ∙ last_shows (accepted ds) p w (rows_below ds) y h

-- So a row that the last call draws again shows that drawing,
pub calls_drawn_again : {p q : List ℕ} (ds : List Drawing) (d : Drawing) → Whole p → drawable d ≡ true → DrawCalls p (ds ++ d ∷ []) q →
    row_part q d.row ≡ bytes_of d
calls_drawn_again {p} ds d w e c =
    calls_show (ds ++ d ∷ []) w c d.row (row_below d e)
    ∙ (λ i. last_of (keep_yes drawable ds d e i) d.row (row_part p d.row))
    ∙ ends (accepted ds) d (row_part p d.row)

-- and the order of calls with different rows never shows.
pub any_draw_calls : {p q r : List ℕ} (ds es : List Drawing) → Whole p → DifferentRows ds → Within ds es → Within es ds →
    DrawCalls p ds q → DrawCalls p es r → q ≡ r
any_draw_calls {p} ds es w one to back c r =
    let apart : DifferentRows (accepted ds) = λ d e m n. one d e (kept_in drawable ds m).0 (kept_in drawable ds n).0 in
    calls_draw ds w c
    ∙ any_drawing_order (accepted ds) (accepted es) p w (rows_below ds) (rows_below es) apart
    (within_accepted ds es to) (within_accepted es ds back)
    ∙ sym (calls_draw es w r)
