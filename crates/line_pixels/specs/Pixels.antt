-- Line pixels, candidates and lines.
use Rattle.std.specs.Prelude.{ℕ, ◌+◌, ◌*◌, ◌%◌, false, cond, ◌&&◌, List, replicate, eqb, leb}
use Rattle.line_pixels.specs.declared.Layer.{Layer}
use Rattle.line_pixels.specs.declared.Layer.TheVariants.{Backdrop, Bg1, Bg2, Bg3, Bg4, Obj}
use Rattle.line_pixels.specs.declared.Priority.{Priority}
use Rattle.line_pixels.specs.declared.LinePixel.{LinePixel}
use Rattle.line_pixels.specs.declared.Candidate.{Candidate}
use Rattle.line_pixels.specs.declared.Lines.{Lines}

abbrev pub priority : ℕ → Priority
priority z = record { 0 = z }

-- sprites have 3 + 3p, p their two bits
abbrev pub sprite_priority : ℕ → Priority
sprite_priority p = priority (3 + 3 * (p % 4))

-- the layer of background b, 0 to 3
abbrev pub layer_of : ℕ → Layer
layer_of b = cond (eqb b 0) Bg1 (cond (eqb b 1) Bg2 (cond (eqb b 2) Bg3 Bg4))

-- the background of a layer; the backdrop and the sprites are no background, and have 4
abbrev pub background_of : Layer → ℕ
background_of Backdrop = 4
background_of Bg1 = 0
background_of Bg2 = 1
background_of Bg3 = 2
background_of Bg4 = 3
background_of Obj = 4

-- the backdrop has priority 0
abbrev pub backdrop_of : ℕ → LinePixel
backdrop_of colour = record { color = colour; z = priority 0; layer = Backdrop; obj_math = false }

-- what is read past the end of a line, and of a row of candidates
abbrev pub no_pixel : LinePixel
no_pixel = backdrop_of 0

-- no candidate
abbrev pub none : Candidate
none = record { opaque = false; pixel = no_pixel }

-- the candidate replaces the held pixel when its priority is at least as great
abbrev pub deposited : LinePixel → Candidate → LinePixel
deposited held c = cond (c.opaque && leb held.z.0 c.pixel.z.0) c.pixel held

-- a line of the backdrop
unfoldable pub backdrop_line : ℕ → List LinePixel
backdrop_line colour = replicate 256 (backdrop_of colour)

-- main starts as colour word 0, sub as coldata, both layer backdrop
abbrev pub backdrop_lines : ℕ → ℕ → Lines
backdrop_lines main sub = record { main = backdrop_line main; sub = backdrop_line sub }
