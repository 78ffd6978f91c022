-- A background: its candidates at each pixel of a row, and its laying.
use Rattle.std.specs.Prelude.{ℕ, Bool, ◌&&◌, List, length, ltb}
use Rattle.base_refusal.specs.Answer.{Answer, value, ◌and_then◌, Outcome, outcome}
use Rattle.registers.specs.declared.PPURegisters.{PPURegisters}
use Rattle.registers.specs.Bits.{bit_of}
use Rattle.row_tests.specs.Tests.{bg_tests}
use Rattle.registers_windows.specs.Windows.{bg_window}
use Rattle.line_pixels.specs.declared.Layer.{Layer}
use Rattle.line_pixels.specs.declared.Lines.{Lines}
use Rattle.line_pixels.specs.Pixels.{background_of}
use Rattle.line_laying.specs.declared.Shown.{Shown}
use Rattle.line_laying.specs.declared.Candidates.{Candidates}
use Rattle.line_laying.specs.Laying.{candidates_of, lay_lines}
use Rattle.bg_map.specs.declared.BgParams.{BgParams}
use Rattle.bg_row.specs.Row.{bg_pixel}

-- where the background is shown: its window, and its bits of tmw and tsw
unfoldable pub bg_shown_by : PPURegisters → BgParams → Shown
bg_shown_by r p = record {
  to_main = p.to_main;
  to_sub = p.to_sub;
  win_main = bit_of r.tmw (background_of p.layer);
  win_sub = bit_of r.tsw (background_of p.layer);
  window = bg_window r (background_of p.layer);
}

-- the layer is one of backgrounds 0 to 3
abbrev pub is_background : Layer → Bool
is_background layer = ltb (background_of layer) 4

-- the candidates at column x of row y
abbrev pub bg_candidates_answer : List ℕ → List ℕ → PPURegisters → BgParams → ℕ → ℕ → Answer Candidates
bg_candidates_answer v g r p y x =
    bg_tests y (length v) (length g) r.mosaic_vcounter (ltb x 256 && is_background p.layer)
    and_then value (candidates_of (bg_shown_by r p) x (bg_pixel v g r p y x))

-- both lines after row y is laid over them
abbrev pub bg_laid_outcome : List ℕ → List ℕ → PPURegisters → BgParams → ℕ → Lines → Outcome Unit Lines
bg_laid_outcome v g r p y lines =
    outcome (bg_tests y (length v) (length g) r.mosaic_vcounter (is_background p.layer)) tt
    (lay_lines (bg_shown_by r p) (bg_pixel v g r p y) lines)
    lines
