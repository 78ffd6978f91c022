use Prim.Native.Nat.{◌/◌}
use mathlib.Core.Path.{sym, ◌∙◌}
use borrow.Author.Rules.{rules}
use Rattle.base_lists.specs.steps.Filling.{front_none, front_more, front_all}
use Rattle.test_replay.specs.Drawing.{drawn_words}
use Rattle.test_replay.specs.steps.Drawing.{after_none, after_next}
use Rattle.test_replay.proofs.drawing.words.Goals as goal

pub loop-held-init : goal.loop-held-init
loop-held-init c = (front_none (search rules), sym (after_none _))

pub loop-held-preserved : goal.loop-held-preserved
loop-held-preserved c =
    let e = after_next _ _ c.loop-held.invariant.1 c.next-x.ensures in
    (front_more c.loop-held.invariant.0 c.loop-held-test.true _ (c.word.ensures ∙ (λ i. e i / 65536)), e)

pub returns : goal.returns
unfolding drawn_words
returns c = front_all c.loop-held.invariant.0 c.loop-held-test.false
