use Rattle.colour.specs.Colour.{direct_colour}
use native.Mathlib.Omega.{arith}
use Rattle.colour.proofs.direct_color.Goals as goal

pub returns : goal.returns
unfolding direct_colour
returns c = omega arith
