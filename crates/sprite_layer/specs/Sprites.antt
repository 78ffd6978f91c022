-- The sprites of a row: the sprite line, their candidates at each pixel, and their laying.
use Rattle.std.specs.Prelude.{ℕ, true, List, map, take, ltb}
use Rattle.base_refusal.specs.Answer.{Answer, value, ◌and_then◌, Outcome, outcome}
use Rattle.base_lists.specs.Tab.{tab}
use Rattle.registers.specs.declared.PPURegisters.{PPURegisters}
use Rattle.registers.specs.Bits.{bit_of}
use Rattle.registers.specs.Scene.{scene}
use Rattle.registers.specs.Screen.{sprite_interlace}
use Rattle.row_tests.specs.Tests.{layer_tests}
use Rattle.registers_windows.specs.Windows.{sprite_window}
use Rattle.oam.specs.declared.Sprite.{Sprite}
use Rattle.oam.specs.Sprites.{sprite_of}
use Rattle.sprite_choice.specs.Choice.{sprite_limit, tile_limit, search_order, found}
use Rattle.line_pixels.specs.declared.Candidate.{Candidate}
use Rattle.line_pixels.specs.declared.Lines.{Lines}
use Rattle.line_pixels.specs.Pixels.{none}
use Rattle.line_laying.specs.declared.Shown.{Shown}
use Rattle.line_laying.specs.declared.Candidates.{Candidates}
use Rattle.line_laying.specs.Laying.{candidates_of, lay_lines}
use Rattle.sprite_tile.specs.declared.View.{View}
use Rattle.sprite_fetch.specs.Fetch.{line_pixel}

-- what decides how row y shows sprites
abbrev pub view_of : PPURegisters → ℕ → View
view_of r y = record { objsel = r.objsel; row = y; obj_interlace = sprite_interlace r; field = r.field }

-- the chosen sprites of row y: the first 32 that the search finds
unfoldable pub chosen_sprites : List ℕ → PPURegisters → ℕ → List Sprite
chosen_sprites oam r y =
    map (λ (i : ℕ). sprite_of oam i r.objsel)
    (take sprite_limit (found oam y r.objsel (sprite_interlace r) (search_order r.oamadd)))

-- the sprite line of row y at column x
unfoldable pub sprite_pixel : List ℕ → List ℕ → List ℕ → PPURegisters → ℕ → ℕ → Candidate
sprite_pixel v g oam r y x = line_pixel v g (view_of r y) tile_limit (chosen_sprites oam r y) x

-- where the sprites are shown: their window, and bit 4 of tm, ts, tmw and tsw
unfoldable pub sprites_shown : PPURegisters → Shown
sprites_shown r = record {
  to_main = bit_of r.tm 4;
  to_sub = bit_of r.ts 4;
  win_main = bit_of r.tmw 4;
  win_sub = bit_of r.tsw 4;
  window = sprite_window r;
}

-- a sprite line with no pixel
unfoldable pub empty_line : List Candidate
empty_line = tab 256 (λ x. none)

-- the sprite line of row y
abbrev pub sprite_line_outcome : List ℕ → List ℕ → List ℕ → PPURegisters → ℕ → Outcome Unit (List Candidate)
sprite_line_outcome v g oam r y =
    outcome (layer_tests (scene r v g oam) y true) tt (tab 256 (sprite_pixel v g oam r y)) empty_line

-- the candidates at column x of row y
abbrev pub sprite_candidates_answer : List ℕ → List ℕ → List ℕ → PPURegisters → ℕ → ℕ → Answer Candidates
sprite_candidates_answer v g oam r y x =
    layer_tests (scene r v g oam) y (ltb x 256) and_then value (candidates_of (sprites_shown r) x (sprite_pixel v g oam r y x))

-- both lines after row y is laid over them
abbrev pub sprites_laid_outcome : List ℕ → List ℕ → List ℕ → PPURegisters → ℕ → Lines → Outcome Unit Lines
sprites_laid_outcome v g oam r y lines =
    outcome (layer_tests (scene r v g oam) y true) tt (lay_lines (sprites_shown r) (sprite_pixel v g oam r y) lines) lines
