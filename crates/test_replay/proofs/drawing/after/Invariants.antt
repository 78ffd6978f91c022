use Prim.Native.Nat.{◌≤◌, ◌-◌}
use mathlib.Core.Path.{◌≡◌}
use Rattle.test_replay.specs.Drawing.{after_of}
use Rattle.test_replay.proofs.drawing.after.Given as goal

abbrev pub invariant-loop : goal.invariant-loop
invariant-loop l = (l.counter ≤ l.n) × (l.x ≡ after_of l.counter l.seed)

abbrev pub decreases-loop : goal.decreases-loop
decreases-loop l = l.n - l.counter
