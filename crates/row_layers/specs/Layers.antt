-- The layers of a scene by their numbers: BG1 to BG4 are 0 to 3, the sprites 4.
use Rattle.std.specs.Prelude.{ℕ, cond, ◌&&◌, List, length, get_or, ltb, eqb}
use Rattle.base_refusal.specs.Answer.{Answer, value, ◌and_then◌, Outcome, outcome}
use Rattle.registers.specs.declared.PPURegisters.{PPURegisters}
use Rattle.registers.specs.Scene.{Scene, scene}
use Rattle.row_tests.specs.Tests.{colour_test, layer_tests}
use Rattle.line_pixels.specs.declared.Candidate.{Candidate}
use Rattle.line_pixels.specs.declared.Lines.{Lines}
use Rattle.line_pixels.specs.Pixels.{none, backdrop_lines}
use Rattle.line_laying.specs.declared.Shown.{Shown}
use Rattle.line_laying.specs.declared.Candidates.{Candidates}
use Rattle.line_laying.specs.Laying.{candidates_of, lay_lines}
use Rattle.bg_modes.specs.Modes.{params_of}
use Rattle.bg_row.specs.Row.{bg_pixel}
use Rattle.bg_layer.specs.Background as background
use Rattle.sprite_layer.specs.Sprites as sprites

module _ (s : Scene) where
  -- where background k is shown, and its pixel at column x of row y
  abbrev pub bg_shown : ℕ → Shown
  bg_shown k = background.bg_shown_by s.regs (params_of s.regs k)

  abbrev pub bg_at : ℕ → ℕ → ℕ → Candidate
  bg_at y k x = bg_pixel s.vram s.cgram s.regs (params_of s.regs k) y x

  -- the sprites' pixel there
  abbrev pub sprite_at : ℕ → ℕ → Candidate
  sprite_at y x = sprites.sprite_pixel s.vram s.cgram s.oam s.regs y x

  -- where layer k is shown
  unfoldable pub layer_shown : ℕ → Shown
  layer_shown k = cond (ltb k 4) (bg_shown k) (sprites.sprites_shown s.regs)

  -- its pixel, and whether it is opaque; there is no layer above 4
  unfoldable pub layer_pixel : ℕ → ℕ → ℕ → Candidate
  layer_pixel y k x = cond (ltb k 4) (bg_at y k x) (cond (eqb k 4) (sprite_at y x) none)

  -- its candidates there
  abbrev pub layer_candidates : ℕ → ℕ → ℕ → Candidates
  layer_candidates y k x = candidates_of (layer_shown k) x (layer_pixel y k x)

  -- both lines after a laying step: it lays its own layer only
  abbrev pub layered : ℕ → ℕ → Lines → Lines
  layered y k lines = lay_lines (layer_shown k) (layer_pixel y k) lines

  -- main starts as colour word 0, sub as coldata
  abbrev pub start_lines : Lines
  start_lines = backdrop_lines (get_or s.cgram 0 0) s.regs.coldata

-- the lines before any layer is laid
abbrev pub backdrop_outcome : List ℕ → PPURegisters → Outcome Unit Lines
backdrop_outcome g r =
    outcome (colour_test (length g)) tt (backdrop_lines (get_or g 0 0) r.coldata) (backdrop_lines 0 0)

-- the candidates of layer k of row y at column x
abbrev pub layer_candidates_answer : Scene → ℕ → ℕ → ℕ → Answer Candidates
layer_candidates_answer s y k x = layer_tests s y (ltb x 256 && ltb k 5) and_then value (layer_candidates s y k x)

-- both lines after layer k of row y is laid over them
abbrev pub layer_outcome : Scene → ℕ → ℕ → Lines → Outcome Unit Lines
layer_outcome s y k lines = outcome (layer_tests s y (ltb k 5)) tt (layered s y k lines) lines
