-- A row has 768 bytes.
use Rattle.std.specs.Prelude.{ℕ, ◌≡◌, Bool, true, false, cond, length}
use Rattle.base_lists.specs.Tab.{tab}
use Rattle.base_lists.specs.theorems.Tab.{length_tab}
use Rattle.registers.specs.Screen as screen
use Rattle.row_composite.specs.Composite.{colour_at, row_byte_at, black_row, row_bytes}
use Rattle.registers.specs.Scene.{Scene}
use Rattle.row_renderer.specs.Renderer.{scene_lines, scene_row}

-- a row has 768 bytes
by_blank : (t : Bool) (f : ℕ → ℕ) → length (cond t black_row (tab 768 f)) ≡ 768
unfolding black_row
by_blank true f = length_tab (λ i. 0) 768
by_blank false f = length_tab f 768

pub length_row : (s : Scene) (y : ℕ) → length (scene_row s y) ≡ 768
unfolding scene_row row_bytes
length_row s y = by_blank (screen.blanked s.regs) (row_byte_at (colour_at s.regs (scene_lines s y)) (screen.brightness_of s.regs))
