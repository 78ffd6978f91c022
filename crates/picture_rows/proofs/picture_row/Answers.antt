use mathlib.Core.Path.{sym}
use mathlib.Core.Bool.{cond}
use borrow.Author.Tests.{eq-eqb, ne_eqb}
use Rattle.picture_rows.specs.Pictures.{lent}
use Rattle.picture_rows.proofs.Handed.{fine_row, no_row}
use Rattle.picture_rows.proofs.picture_row.Goals as goal

pub returns-then-choice-eq0 : goal.returns-then-choice-eq0
returns-then-choice-eq0 c =
    let a = c.args in
    let zero = c.if-choice-eq0.true in
    fine_row (lent a.first) (lent a.second) a.choice a.y _ c.tested.ensures.said _ c.in-Ok.is c.in-Ok.ensures.held.0
    (λ i. cond (sym (eq-eqb a.choice 0 zero) i) (lent a.first) (lent a.second))

pub returns-else-choice-eq0 : goal.returns-else-choice-eq0
returns-else-choice-eq0 c =
    let a = c.args in
    let other = c.if-choice-eq0.false in
    fine_row (lent a.first) (lent a.second) a.choice a.y _ c.tested.ensures.said _ c.in-Ok.is c.in-Ok.ensures.held.0
    (λ i. cond (sym (ne_eqb a.choice 0 other) i) (lent a.first) (lent a.second))

pub returns-in-Err : goal.returns-in-Err
returns-in-Err c =
    let a = c.args in
    no_row (lent a.first) (lent a.second) a.choice a.y _ c.tested.ensures.said c.in-Err.is
