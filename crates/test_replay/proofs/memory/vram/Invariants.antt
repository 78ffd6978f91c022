use Prim.Native.Nat.{◌+◌, ◌*◌, ◌-◌}
use mathlib.Core.Path.{◌≡◌}
use Rattle.base_lists.specs.steps.Filling.{Front}
use Rattle.test_replay.specs.Drawing.{after_of, drawn_word}
use Rattle.test_replay.specs.Memory.{held_of}
use Rattle.test_replay.proofs.memory.vram.Given as goal

abbrev pub invariant-loop-i : goal.invariant-loop-i
invariant-loop-i l =
    Front 32768 (λ k. held_of l.filling k (drawn_word (k * 2 + 1) l.seed) (drawn_word (k * 2 + 2) l.seed)) l.place-items l.i × (l.x ≡ after_of (l.i * 2) l.seed)

abbrev pub decreases-loop-i : goal.decreases-loop-i
decreases-loop-i l = 32768 - l.i
