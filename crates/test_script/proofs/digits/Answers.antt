use mathlib.Core.Path.{sym, ap, ◌∙◌}
use native.Mathlib.Omega.{arith}
use Rattle.test_script.proofs.Reading.{onward, no_digit, first_digit, next_digit, last_digit, no_other, the_digit}
use Rattle.test_script.proofs.digits.Goals as goal

pub returns-then-is_empty : goal.returns-then-is_empty
returns-then-is_empty c = no_digit _ _ (sym c.is_empty.ensures ∙ c.if-is_empty.true)

pub loop-b-init : goal.loop-b-init
loop-b-init c = (omega arith, omega arith, first_digit _ _ (sym c.is_empty.ensures ∙ c.if-is_empty.false))

-- what is left to read says, behind what is read, what the whole word says
pub returns-in_err-digit : goal.returns-in_err-digit
returns-in_err-digit c =
    c.from_residual.ensures
    ∙ (ap (onward _ _) (sym (no_other _ c.requires _ _ (sym c.digit.ensures ∙ c.in_err-digit.was)))
    ∙ (sym (next_digit _ _ _ _ c.loop-b-test.true)
    ∙ c.loop-b.invariant.2))

pub returns-in_err-n : goal.returns-in_err-n
returns-in_err-n c =
    c.from_residual-in_err-n.ensures
    ∙ (ap (onward _ _) (sym c.in_err-n.was
    ∙ (c.more.ensures ∙ the_digit _ c.requires _ _ _ (sym c.digit.ensures ∙ c.in_ok-digit.was)))
    ∙ (sym (next_digit _ _ _ _ c.loop-b-test.true)
    ∙ c.loop-b.invariant.2))

pub loop-b-preserved : goal.loop-b-preserved
loop-b-preserved c = (
  omega arith,
  omega arith,
  ap (onward _ _) (sym c.in_ok-n.was
      ∙ (c.more.ensures ∙ the_digit _ c.requires _ _ _ (sym c.digit.ensures ∙ c.in_ok-digit.was)))
      ∙ (sym (next_digit _ _ _ _ c.loop-b-test.true)
      ∙ c.loop-b.invariant.2),
)

pub returns : goal.returns
returns c = sym (last_digit _ _ _ _ c.loop-b-test.false c.loop-b.invariant.1) ∙ c.loop-b.invariant.2
