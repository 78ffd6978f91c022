-- The five layers laid in some order, and calls of `render_layer` one after another.
use Rattle.std.specs.Prelude.{ℕ, ◌<◌, ◌≡◌, Result, Ok}
use mathlib.Core.List.{List, [], ◌∷◌, Memᴰ}
use Rattle.base_refusal.specs.Answer.{Outcome}
use Rattle.base_refusal.specs.Results.{means, outcome_of}
use Rattle.base_refusal.specs.declared.Refusal.{Refusal}
use Rattle.line_pixels.specs.declared.Lines.{Lines}
use Rattle.line_pixels.specs.Pixels.{backdrop_lines}
use Rattle.line_laying.specs.Order.{lay_all}
use Rattle.registers.specs.Scene.{Scene}
use Rattle.row_layers.specs.Layers.{layer_shown, layer_pixel, start_lines, backdrop_outcome, layer_outcome}

-- each of the five layers is among ks
abbrev pub AllFive : List ℕ → Type 0
AllFive ks = (k : ℕ) → k < 5 → Memᴰ k ks

module _ (s : Scene) (y : ℕ) where
  -- both lines after the layers ks, laid over the backdrops in that order
  abbrev pub lines_after : List ℕ → Lines
  lines_after ks = lay_all (layer_shown s) (layer_pixel s y) ks (start_lines s)

  -- calls of `render_layer` with any numbers ks, from lines to lines: each is lent the lines that the one before left, and is
  -- known by its contract alone
  pub data LayerCalls : Lines → List ℕ → Lines → Type 0 where
    none : {l : Lines} → LayerCalls l [] l
    call : {l m : Lines} {k : ℕ} {ks : List ℕ} (r : Result Unit Refusal) (after : Lines) →
        ◌≡◌ {A = Outcome Unit Lines} (record { said = means r; left = after }) (layer_outcome s y k l) →
        LayerCalls after ks m → LayerCalls l (k ∷ ks) m

  -- a run: calls from the lines that a call of `backdrop_lines` answers, which is known by its contract too and was not refused
  pub record Run (ks : List ℕ) (m : Lines) : Type 0 where
    pub start : Lines
    pub begins : outcome_of (backdrop_lines 0 0) (Ok start) ≡ backdrop_outcome s.cgram s.regs
    pub calls : LayerCalls start ks m
