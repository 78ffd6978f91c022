-- Pixels, candidates and lines whose colours are changed by a rule f: which pixel is held does not depend on its colour.
use Rattle.std.specs.Prelude.{ℕ, ◌≡◌, refl, Bool, true, false, cond, ◌&&◌, map, leb}
use Rattle.std.proofs.Common.{sym, ◌∙◌}
use Rattle.line_pixels.specs.declared.LinePixel.{LinePixel}
use Rattle.line_pixels.specs.declared.Candidate.{Candidate}
use Rattle.line_pixels.specs.declared.Lines.{Lines}
use Rattle.line_pixels.specs.Pixels.{backdrop_of, none, deposited}

-- of two changed things the one that a test names
pub one_changed : {A B : Type 0} (g : A → B) (t : Bool) (a b : A) → cond t (g a) (g b) ≡ g (cond t a b)
one_changed g true a b = refl
one_changed g false a b = refl

module _ (f : ℕ → ℕ) where
  -- the pixel in another colour
  abbrev pub recolour : LinePixel → LinePixel
  recolour p = record { color = f p.color; z = p.z; layer = p.layer; obj_math = p.obj_math }

  -- the candidate in another colour
  abbrev pub recoloured : Candidate → Candidate
  recoloured c = record { opaque = c.opaque; pixel = recolour c.pixel }

  -- both lines in other colours
  abbrev pub recoloured_lines : Lines → Lines
  recoloured_lines lines = record { main = map recolour lines.main; sub = map recolour lines.sub }

  -- a deposit of recoloured pixels is recoloured
  pub deposited_recoloured : (held : LinePixel) (c : Candidate) → deposited (recolour held) (recoloured c) ≡ recolour (deposited held c)
  deposited_recoloured held c = one_changed recolour (c.opaque && leb held.z.0 c.pixel.z.0) c.pixel held

  -- where the rule keeps colour 0, no candidate stays none
  pub none_recoloured : f 0 ≡ 0 → none ≡ recoloured none
  none_recoloured e = λ i. record { opaque = false; pixel = backdrop_of (sym e i) }

  -- so what is there under a test, or none
  pub there_recoloured : f 0 ≡ 0 → (t : Bool) (c : Candidate) → cond t (recoloured c) none ≡ recoloured (cond t c none)
  there_recoloured e t c = (λ i. cond t (recoloured c) (none_recoloured e i)) ∙ one_changed recoloured t c none
