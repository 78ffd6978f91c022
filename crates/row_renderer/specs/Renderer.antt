-- A row of a scene, and its part of a picture.
use Rattle.std.specs.Prelude.{ℕ, ◌+◌, ◌*◌, List, [], ◌∷◌, ◌++◌, length, take, drop, eqb}
use Rattle.base_refusal.specs.Answer.{Outcome, outcome}
use Rattle.row_tests.specs.Tests.{draw_tests}
use Rattle.line_pixels.specs.declared.Lines.{Lines}
use Rattle.line_laying.specs.Order.{lay_all}
use Rattle.row_composite.specs.Composite.{row_bytes}
use Rattle.registers.specs.Scene.{Scene}
use Rattle.row_layers.specs.Layers.{layer_shown, layer_pixel, start_lines}

module _ (s : Scene) where
  -- both lines of row y: the five layers over the backdrops
  abbrev pub scene_lines : ℕ → Lines
  scene_lines y = lay_all (layer_shown s) (layer_pixel s y) (0 ∷ 1 ∷ 2 ∷ 3 ∷ 4 ∷ []) (start_lines s)

  -- the row's bytes
  unfoldable pub scene_row : ℕ → List ℕ
  scene_row y = row_bytes s.regs (scene_lines y)

-- a picture with other bytes in row y's part, from y x 768
unfoldable pub with_row : List ℕ → ℕ → List ℕ → List ℕ
with_row picture y row = take (y * 768) picture ++ (row ++ drop (y * 768 + 768) picture)

-- what drawing row y leaves of a lent row
abbrev pub row_outcome : Scene → ℕ → List ℕ → Outcome Unit (List ℕ)
row_outcome s y row = outcome (draw_tests s y (eqb (length row) 768)) tt (scene_row s y) row

-- and of a lent picture
abbrev pub picture_outcome : Scene → ℕ → List ℕ → Outcome Unit (List ℕ)
picture_outcome s y picture = outcome (draw_tests s y (eqb (length picture) 172032)) tt (with_row picture y (scene_row s y)) picture
