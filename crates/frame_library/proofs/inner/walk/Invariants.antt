use Prim.Native.Nat.{◌-◌}
use Rattle.row_tests.specs.Memory.{lent_scene}
use Rattle.frame_library.proofs.Walk.{Walked}
use Rattle.frame_library.proofs.inner.walk.Given as goal

abbrev pub invariant-loop-y : goal.invariant-loop-y
invariant-loop-y l = Walked (lent_scene l.r l.memory) l.initial.row l.row l.at l.counter l.y

abbrev pub decreases-loop-y : goal.decreases-loop-y
decreases-loop-y l = 224 - l.y
