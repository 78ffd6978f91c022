use Prim.Native.Nat.{◌-◌, ◌*◌}
use lib.ListN.{get_or}
use Rattle.base_lists.specs.steps.Filling.{Front}
use Rattle.row_composite.specs.Composite.{row_byte_at}
use Rattle.row_composite.proofs.inner.brighten.Given as goal

abbrev pub invariant-loop-x : goal.invariant-loop-x
invariant-loop-x l = Front 768 (row_byte_at (λ k. get_or l.colors k 0) l.brightness) l.row (l.x * 3)

abbrev pub decreases-loop-x : goal.decreases-loop-x
decreases-loop-x l = 256 - l.x
