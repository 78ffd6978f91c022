use mathlib.Core.Path.{◌≡◌}
use Prim.Native.Nat.{◌+◌, ◌-◌, ◌%◌}
use lib.ListN.{get_or}
use Rattle.base_lists.specs.steps.Filling.{Front}
use Rattle.packed_background.proofs.inner.blocks.Given as goal

abbrev pub invariant-loop-start : goal.invariant-loop-start
invariant-loop-start l = Front 272 (λ x. get_or l.cells (x - x % l.block + l.fine) 0) l.line l.start × (l.start % l.block ≡ 0)
