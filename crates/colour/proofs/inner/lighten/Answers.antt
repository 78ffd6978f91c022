use Rattle.colour.specs.Colour.{light}
use Rattle.colour.proofs.Laws.{product}
use native.Mathlib.Omega.{arith}
use borrow.Author.Tests.{eq-eqb, ne_eqb}
use Rattle.colour.proofs.inner.lighten.Goals as goal

pub returns-then-brightness-eq0 : goal.returns-then-brightness-eq0
unfolding light
returns-then-brightness-eq0 c = simp (eq-eqb _ _ c.if-brightness-eq0.true)

pub overflow_mul-s : goal.overflow_mul-s
overflow_mul-s c = omega (arith, product _ _ c.requires.0 c.requires.1)

pub overflow_mul-result : goal.overflow_mul-result
overflow_mul-result c = omega (arith, product _ _ c.requires.0 c.requires.1)

pub overflow_add-result : goal.overflow_add-result
overflow_add-result c = omega (arith, product _ _ c.requires.0 c.requires.1)

pub overflow_cast-result : goal.overflow_cast-result
overflow_cast-result c = omega (arith, product _ _ c.requires.0 c.requires.1)

pub returns : goal.returns
unfolding light
returns c = simp (ne_eqb _ _ c.if-brightness-eq0.false)
