-- A tile's packed pixels, and one drawn over another.
use Prim.Native.Nat.{ℕ, ◌+◌, ◌%◌}
use mathlib.Core.Path.{◌≡◌, refl, ap, ◌∙◌}
use mathlib.Core.Bool.{Bool, true, false, cond, not}
use mathlib.Core.List.{List}
use native.Mathlib.Omega.{arith}
use lib.ListN.{get_or}
use lib.Dec.{leb, eqb}
use borrow.Author.Tests.{ne_eqb}
use Rattle.line_pixels.specs.declared.Layer.TheVariants.{Obj}
use Rattle.line_pixels.specs.declared.Priority.{Priority}
use Rattle.line_pixels.specs.declared.LinePixel.{LinePixel}
use Rattle.line_pixels.specs.declared.Candidate.{Candidate}
use Rattle.packed_pixels.specs.steps.Packed.{code_of, head_of, packed, packed_if}
use Rattle.packed_pixels.specs.steps.Laws.{rank_of}
use Rattle.sprite_tile.specs.Tile.{sprite_pixel_of}
use Rattle.tiles_eight.specs.steps.Shades.{shade}

-- a pixel of a tile
pub sprite_shade : (colours : List ℕ) (palette : ℕ) (z : Priority) {code head i n : ℕ} → code ≡ code_of Obj (leb 4 palette) →
    head ≡ head_of code z → i ≡ n → shade colours head i ≡ packed_if (sprite_pixel_of colours palette z n)
unfolding shade packed_if packed
sprite_shade colours palette z c h e =
    λ j. cond (not (eqb (e j) 0)) ((h ∙ (λ k. head_of (c k) z)) j + get_or colours (e j) 0 % 65536) 0

-- a packed pixel is not 0
some : (p : LinePixel) → eqb (packed p) 0 ≡ false
some p = ne_eqb (packed p) 0 (λ e. omega (arith, rank_of p))

-- so 0 says that nothing is drawn over it
by_opaque : (o : Bool) (p : LinePixel) (h : Candidate) →
    cond (not (eqb (packed_if (record { opaque = o; pixel = p })) 0)) (packed_if (record { opaque = o; pixel = p })) (packed_if h)
    ≡ packed_if (cond o (record { opaque = o; pixel = p }) h)
unfolding packed_if
by_opaque true p h = ap (λ (t : Bool). cond (not t) (packed p) (packed_if h)) (some p)
by_opaque false p h = refl

pub over_is : (c h : Candidate) → cond (not (eqb (packed_if c) 0)) (packed_if c) (packed_if h) ≡ packed_if (cond c.opaque c h)
over_is c h = by_opaque c.opaque c.pixel h
