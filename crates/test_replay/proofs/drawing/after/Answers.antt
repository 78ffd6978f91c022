use Prim.Native.Nat.{ℕ}
use mathlib.Core.Path.{◌≡◌, sym, ap, ◌∙◌}
use native.Mathlib.Omega.{arith}
use Rattle.test_replay.specs.Drawing.{after_of}
use Rattle.test_replay.specs.steps.Drawing.{after_none, after_next}
use Rattle.test_replay.proofs.drawing.after.Goals as goal

pub loop-init : goal.loop-init
loop-init c = (omega arith, sym (after_none _))

pub loop-preserved : goal.loop-preserved
loop-preserved c = (omega arith, after_next _ _ c.loop.invariant.1 c.next-x.ensures)

pub returns : goal.returns
returns c =
    let e : c.loop.counter ≡ c.args.n = omega arith in
    c.loop.invariant.1 ∙ ap (λ (k : ℕ). after_of k c.args.seed) e
