use Prim.Native.Nat.{◌-◌, ◌*◌, ◌≤◌}
use Rattle.base_lists.specs.steps.Filling.{Front}
use Rattle.bg_row.specs.steps.Cells.{cell_at}
use Rattle.packed_pixels.specs.steps.Packed.{packed_if}
use Rattle.packed_background.proofs.inner.cells.Given as goal

abbrev pub invariant-loop-j : goal.invariant-loop-j
invariant-loop-j l =
    Front 264 (λ i. packed_if (cell_at l.vram l.g l.p.params l.direct l.py i)) l.out (l.j * 8) × (l.j ≤ 33)

abbrev pub decreases-loop-j : goal.decreases-loop-j
decreases-loop-j l = 33 - l.j
