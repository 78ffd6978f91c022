use mathlib.Core.Path.{◌≡◌}
use Rattle.base_lists.specs.steps.Filling.{Front}
use Rattle.line_laying.specs.Laying.{candidate_in}
use Prim.Native.Nat.{◌+◌, ◌-◌, ◌%◌}
use Rattle.bg_row.proofs.inner.blocks.Given as goal

abbrev pub invariant-loop-start : goal.invariant-loop-start
invariant-loop-start l = Front 256 (λ k. candidate_in l.cells (k - k % l.block + l.fine)) l.out l.start × (l.start % l.block ≡ 0)
