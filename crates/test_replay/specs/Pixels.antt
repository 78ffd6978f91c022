-- What the two screens hold of a column.
use Rattle.std.specs.Prelude.{ℕ, Bool, ◌&&◌, eqb, leb, Result, Ok, Err}
use Rattle.base_refusal.specs.declared.Refusal.{Refusal}
use Rattle.test_digest.specs.Digest.{one_of}
use Rattle.line_laying.specs.declared.Candidates.{Candidates}
use Rattle.line_pixels.specs.Pixels.{background_of, backdrop_of, deposited}
use Rattle.line_pixels.specs.declared.LinePixel.{LinePixel}
use Rattle.test_replay.specs.declared.pixels.Pixels.{Pixels}

abbrev pub bare_of : ℕ → ℕ → Pixels
bare_of main sub = record { main = backdrop_of main; sub = backdrop_of sub }

-- on a refusal what was held
abbrev pub laid_of : Pixels → Result Candidates Refusal → Pixels
laid_of held (Ok c) = record { main = deposited held.main c.main; sub = deposited held.sub c.sub }
laid_of held (Err n) = held

-- priority, background, colour and math mark
abbrev pub same_of : LinePixel → LinePixel → Bool
same_of a b =
    (((leb b.z.0 a.z.0 && leb a.z.0 b.z.0) && eqb (background_of a.layer) (background_of b.layer))
    && eqb a.color b.color)
    && eqb (one_of a.obj_math) (one_of b.obj_math)
