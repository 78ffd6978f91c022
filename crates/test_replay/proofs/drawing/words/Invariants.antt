use Prim.Native.Nat.{◌+◌}
use mathlib.Core.Path.{◌≡◌}
use Rattle.base_lists.specs.steps.Filling.{Front}
use Rattle.test_replay.specs.Drawing.{after_of, drawn_word}
use Rattle.test_replay.proofs.drawing.words.Given as goal

abbrev pub invariant-loop-held : goal.invariant-loop-held
invariant-loop-held l =
    Front 256 (λ k. drawn_word (k + 1) l.seed) l.held-items l.held-index × (l.x ≡ after_of l.held-index l.seed)
