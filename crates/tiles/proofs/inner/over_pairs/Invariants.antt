use Prim.Native.Nat.{◌≤◌}
use Rattle.tiles.proofs.Walk.{Left}
use Rattle.tiles.proofs.inner.over_pairs.Given as goal

abbrev pub invariant-loop-pair : goal.invariant-loop-pair
invariant-loop-pair l = (l.pair ≤ l.pairs) × Left l.vram l.base l.x l.y l.pairs l.pair l.index

abbrev pub decreases-loop-pair : goal.decreases-loop-pair
decreases-loop-pair l = l.pair
