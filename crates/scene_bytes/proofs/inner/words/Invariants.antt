use Prim.Native.Nat.{◌*◌, ◌-◌}
use lib.ListN.{length}
use Rattle.scene_bytes.specs.Bytes.{word_at}
use Rattle.base_lists.specs.steps.Filling.{Front}
use Rattle.scene_bytes.proofs.inner.words.Given as goal

abbrev pub invariant-loop-i : goal.invariant-loop-i
invariant-loop-i l = Front (length l.initial.out) (λ k. word_at l.b (k * 2)) l.out l.i

abbrev pub decreases-loop-i : goal.decreases-loop-i
decreases-loop-i l = length l.initial.out - l.i
