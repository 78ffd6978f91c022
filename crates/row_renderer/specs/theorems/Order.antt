-- A row does not show the order of its laying: both lines, with the five layers laid over the backdrops in any order, each at
-- least once, make the row.
use Rattle.std.specs.Prelude.{ℕ, zero, suc, ◌≡◌, refl, true, List, [], ◌∷◌}
use Rattle.std.proofs.Common.{ap, ◌∙◌, arith}
use mathlib.Core.List.Memᴰ
use Rattle.base_refusal.specs.Answer.{value}
use Rattle.row_tests.specs.Tests.{layer_tests}
use Rattle.line_pixels.specs.declared.Lines.{Lines}
use Rattle.row_composite.specs.Composite.{row_bytes}
use Rattle.registers.specs.Scene.{Scene}
use Rattle.row_layers.specs.Order.{AllFive, lines_after, Run}
use Rattle.row_layers.proofs.theorems.Order.{any_order, run_lays}
use Rattle.row_renderer.specs.Renderer.{scene_row}

-- the order in which a row is drawn has all five
all_five : AllFive (0 ∷ 1 ∷ 2 ∷ 3 ∷ 4 ∷ [])
all_five zero h = Memᴰ.head refl
all_five (suc zero) h = Memᴰ.tail (Memᴰ.head refl)
all_five (suc (suc zero)) h = Memᴰ.tail (Memᴰ.tail (Memᴰ.head refl))
all_five (suc (suc (suc zero))) h = Memᴰ.tail (Memᴰ.tail (Memᴰ.tail (Memᴰ.head refl)))
all_five (suc (suc (suc (suc zero)))) h =
    Memᴰ.tail (Memᴰ.tail (Memᴰ.tail (Memᴰ.tail (Memᴰ.head refl))))
all_five (suc (suc (suc (suc (suc k))))) h = absurd (omega arith)

pub row_of_any_order : (s : Scene) (y : ℕ) (ks : List ℕ) → AllFive ks → row_bytes s.regs (lines_after s y ks) ≡ scene_row s y
unfolding scene_row
row_of_any_order s y ks m = ap (row_bytes s.regs) (any_order s y ks (0 ∷ 1 ∷ 2 ∷ 3 ∷ 4 ∷ []) m all_five)

-- and so do the lines that any calls of `render_layer` leave, with each of the five layers at least once
pub row_of_any_calls : (s : Scene) (y : ℕ) → layer_tests s y true ≡ value tt → {m : Lines} (ks : List ℕ) → AllFive ks → Run s y ks m →
    row_bytes s.regs m ≡ scene_row s y
row_of_any_calls s y t ks f r = ap (row_bytes s.regs) (run_lays s y t ks r) ∙ row_of_any_order s y ks f
