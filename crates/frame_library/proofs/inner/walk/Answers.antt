use Prim.Native.Nat.{ℕ, ◌+◌}
use mathlib.Core.Path.{ap, ◌∙◌}
use mathlib.Core.Logic.{⊎_elim}
use native.Mathlib.Omega.{arith}
use borrow.Author.Rules.{rules}
use Rattle.frame_library.proofs.Walk.{row_part_lem, walked_none, walked_more, walked_stopped, walked_all}
use Rattle.frame_library.proofs.inner.walk.Goals as goal

pub loop-y-init : goal.loop-y-init
loop-y-init c = walked_none _ c.told-row c.requires

pub hand-next-requires : goal.hand-next-requires
hand-next-requires c =
    row_part_lem _ _ _ c.loop-y-test.true c.loop-y.invariant.come c.draw_row-counter.ensures.0

pub returns-then-next-at : goal.returns-then-next-at
returns-then-next-at c =
    walked_stopped _ c.loop-y.invariant c.loop-y-test.true (c.hand-next.ensures.0 ∙ c.draw_row-counter.ensures.0)

pub loop-y-smaller : goal.loop-y-smaller
loop-y-smaller c = omega arith

pub loop-y-preserved : goal.loop-y-preserved
loop-y-preserved c =
    walked_more _ c.loop-y.invariant c.loop-y-test.true (c.hand-next.ensures.0 ∙ c.draw_row-counter.ensures.0) c.draw_row-counter.ensures.1
    (⊎_elim
    (λ e. e ∙ ap (λ (n : ℕ). c.loop-y.at + n) (search rules))
    (λ e. absurd (c.if-next-at.false e))
    c.hand-next.ensures.1)

pub returns : goal.returns
returns c = walked_all _ c.loop-y.invariant c.loop-y-test.false
