use Rattle.colour.specs.Colour.{math_of, colour_word}
use Rattle.colour.proofs.color_math.Goals as goal

pub returns : goal.returns
unfolding math_of
returns c = λ i. colour_word (c.channel-r.ensures.0 i) (c.channel-g.ensures.0 i) (c.channel-b.ensures.0 i)
