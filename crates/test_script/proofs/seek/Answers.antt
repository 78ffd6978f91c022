use mathlib.Core.Path.{sym, ◌∙◌}
use native.Mathlib.Omega.{arith}
use borrow.Author.Rules.{rules}
use Rattle.test_script.proofs.Seeking.{at_the_end, stopped, passed}
use Rattle.test_script.proofs.seek.Goals as goal

pub returns-then-stops : goal.returns-then-stops
returns-then-stops c =
    let at-loop = c.loop-i in
    sym (stopped _ _ _ (omega arith) (sym c.stops.ensures ∙ c.if-stops.true)) ∙ at-loop.invariant.1

pub loop-i-preserved : goal.loop-i-preserved
loop-i-preserved c =
    let at-loop = c.loop-i in
    (search rules, passed _ _ _ (omega arith) (sym c.stops.ensures ∙ c.if-stops.false) ∙ at-loop.invariant.1)

pub returns : goal.returns
returns c = sym (at_the_end _ _ _ (omega arith)) ∙ c.loop-i.invariant.1
