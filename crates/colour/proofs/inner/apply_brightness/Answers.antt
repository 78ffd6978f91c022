use Rattle.colour.specs.Colour.{at_brightness}
use Rattle.colour.proofs.inner.apply_brightness.Goals as goal

pub returns : goal.returns
unfolding at_brightness
returns c = λ i. record {
  red = c.lighten.ensures i;
  green = c.lighten-2.ensures i;
  blue = c.lighten-3.ensures i;
}
