-- Packed pixels are laid as pixels are.
use Rattle.std.specs.Prelude.{ℕ, ◌+◌, ◌/◌, ◌%◌, ◌<◌, ◌≡◌, refl, Bool, true, false, cond, not, ◌&&◌, List, get_or, leb}
use Rattle.std.proofs.Common.{sym, ◌∙◌, arith, lit<, leb-true, leb-false, le-leb}
use Rattle.std.proofs.lemmas.Bool.{lt-leb}
use Rattle.base_lists.specs.theorems.Tab.{get_d_tab}
use Rattle.line_pixels.specs.declared.Layer.{Layer}
use Rattle.line_pixels.specs.declared.Layer.TheVariants.{Backdrop, Bg1, Bg2, Bg3, Bg4, Obj}
use Rattle.line_pixels.specs.declared.LinePixel.{LinePixel}
use Rattle.line_pixels.specs.declared.Candidate.{Candidate}
use Rattle.line_pixels.specs.Pixels.{no_pixel, deposited}
use Rattle.line_laying.specs.Laying.{on_screen, lay_line}
use Rattle.packed_pixels.specs.steps.Packed.{code_of, code_place, rank_place, packed, packed_if, held_after}

-- a code has three bits
pub code_small : (l : Layer) (m : Bool) → code_of l m < 8
code_small Bg1 m = lit< tt
code_small Bg2 m = lit< tt
code_small Bg3 m = lit< tt
code_small Bg4 m = lit< tt
code_small Obj true = lit< tt
code_small Obj false = lit< tt
code_small Backdrop m = lit< tt

-- what a packed pixel is made of
module _ (p : LinePixel) where
  pub rank_of : packed p / rank_place ≡ p.z.0 + 1
  unfolding packed
  rank_of = omega (arith, code_small p.layer p.obj_math)

  pub code_of_lem : packed p / code_place % 8 ≡ code_of p.layer p.obj_math
  unfolding packed
  code_of_lem = omega (arith, code_small p.layer p.obj_math)

  pub colour_of_lem : packed p % 65536 ≡ p.color % 65536
  unfolding packed
  colour_of_lem = omega (arith, code_small p.layer p.obj_math)

-- a packed candidate is laid as a candidate
opaque_laid : (h p : LinePixel) (t : Bool) → leb h.z.0 p.z.0 ≡ t → held_after (packed h) (packed p) ≡ packed (cond t p h)
opaque_laid h p true e = simp (le-leb (packed h / rank_place) (packed p / rank_place) (omega (arith, leb-true h.z.0 p.z.0 e, rank_of h, rank_of p)))
opaque_laid h p false e = simp (lt-leb (packed h / rank_place) (packed p / rank_place) (omega (arith, leb-false h.z.0 p.z.0 e, rank_of h, rank_of p)))

nothing_laid : (h : LinePixel) → held_after (packed h) 0 ≡ packed h
nothing_laid h = simp (lt-leb (packed h / rank_place) 0 (omega (arith, rank_of h)))

pub laid_packed : (h : LinePixel) (c : Candidate) → held_after (packed h) (packed_if c) ≡ packed (deposited h c)
unfolding packed_if
laid_packed h c = by_opaque c.opaque
  where
    by_opaque : (o : Bool) → held_after (packed h) (cond o (packed c.pixel) 0) ≡ packed (cond (o && leb h.z.0 c.pixel.z.0) c.pixel h)
    by_opaque true = opaque_laid h c.pixel (leb h.z.0 c.pixel.z.0) refl
    by_opaque false = nothing_laid h

-- what is not shown is barred
by_tests : (t o : Bool) (p : LinePixel) →
    cond (not t) 0 (packed_if (record { opaque = o; pixel = p })) ≡ packed_if (on_screen t (record { opaque = o; pixel = p }))
unfolding packed_if
by_tests true true p = refl
by_tests true false p = refl
by_tests false true p = refl
by_tests false false p = refl

pub barred_packed : (shown : Bool) (c : Candidate) → cond (not shown) 0 (packed_if c) ≡ packed_if (on_screen shown c)
barred_packed shown c = by_tests shown c.opaque c.pixel

-- a row laid over a line: what column x holds
pub laid_at : (c : ℕ → Candidate) (l : List LinePixel) (x n : ℕ) → x < 256 → n ≡ packed (get_or l x no_pixel) →
    held_after n (packed_if (c x)) ≡ packed (get_or (lay_line c l) x no_pixel)
laid_at c l x n h e =
    (λ i. held_after (e i) (packed_if (c x)))
    ∙ (laid_packed (get_or l x no_pixel) (c x)
    ∙ sym (λ i. packed (get_d_tab (λ k. deposited (get_or l k no_pixel) (c k)) 256 x no_pixel h i)))
