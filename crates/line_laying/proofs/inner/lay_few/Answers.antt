use borrow.Author.Tests.{not-true}
use mathlib.Core.Path.{◌∙◌}
use borrow.Author.Rules.{rules}
use lib.ListN.{get_or}
use Rattle.base_lists.specs.steps.Filling.{filled_none, filled_read, filled_more, filled_kept, filled_all}
use Rattle.line_pixels.specs.Pixels.{no_pixel, deposited}
use Rattle.line_laying.specs.Laying.{on_main, on_sub, candidate_in}
use Rattle.line_laying.proofs.Screens.{clear_kept}
use Rattle.line_laying.proofs.inner.lay_few.Goals as goal

pub loop-x-init : goal.loop-x-init
loop-x-init c = (filled_none (search rules), filled_none (search rules))

pub loop-x-preserved-then-not-c : goal.loop-x-preserved-then-not-c
loop-x-preserved-then-not-c c =
    let a = c.args in
    let i = c.loop-x.invariant in
    let x = c.loop-x.x in
    let h = c.loop-x-test.true in
    let clear = not-true _ c.if-not-c.true in (
      filled_kept i.0 h no_pixel (clear_kept (get_or a.main.now x no_pixel) (on_main a.s x) (candidate_in a.row.now x) clear),
      filled_kept i.1 h no_pixel (clear_kept (get_or a.sub.now x no_pixel) (on_sub a.s x) (candidate_in a.row.now x) clear),
    )

pub loop-x-preserved : goal.loop-x-preserved
loop-x-preserved c =
    let i = c.loop-x.invariant in
    let h = c.loop-x-test.true in (
      filled_more i.0 h _ (c.deposit.ensures ∙ (λ k. deposited (filled_read i.0 h no_pixel k) (c.on_screens-seen.ensures k).main)),
      filled_more i.1 h _ (c.deposit-in-loop-x.ensures ∙ (λ k. deposited (filled_read i.1 h no_pixel k) (c.on_screens-seen.ensures k).sub)),
    )

pub returns : goal.returns
returns c =
    let i = c.loop-x.invariant in
    record { main = filled_all i.0 c.loop-x-test.false; sub = filled_all i.1 c.loop-x-test.false }
