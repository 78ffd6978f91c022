use Prim.Native.Nat.{◌^◌, ◌<◌}
use mathlib.Core.Path.{◌≡◌}
use Rattle.tiles_eight.specs.steps.Shades.{index_in}
use Rattle.tiles_eight.proofs.inner.index.Given as goal

abbrev pub invariant-loop-word : goal.invariant-loop-word
invariant-loop-word g l =
    (l.place ≡ 4 ^ l.word-index) × ((l.index ≡ index_in l.words l.col l.word-index) × (l.index < 4 ^ l.word-index))
