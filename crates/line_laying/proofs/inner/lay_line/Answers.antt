use borrow.Author.Rules.{rules}
use Rattle.base_lists.specs.steps.Filling.{filled_none, filled_read, filled_more, filled_all, long_field}
use Rattle.line_pixels.specs.Pixels.{no_pixel, deposited}
use mathlib.Core.Path.{◌∙◌}
use Rattle.line_laying.proofs.inner.lay_line.Goals as goal

pub loop-x-init : goal.loop-x-init
loop-x-init c = filled_none (search (rules, long_field))

pub loop-x-preserved : goal.loop-x-preserved
loop-x-preserved c =
    let h = c.loop-x-test.true in
    let i = c.loop-x.invariant in
    filled_more i h _ (c.deposit.ensures ∙ (λ k. deposited (filled_read i h no_pixel k) (c.unless.ensures k)))

pub returns : goal.returns
returns c = filled_all c.loop-x.invariant c.loop-x-test.false
