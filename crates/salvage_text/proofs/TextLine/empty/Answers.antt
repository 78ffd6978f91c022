use Rattle.std.specs.Prelude.{[], refl}
use Rattle.salvage_text.proofs.Lines.{line_made, line_none}
use Rattle.salvage_text.proofs.TextLine.empty.Goals as goal

pub returns : goal.returns
returns c = let made = line_made [] line_none in (made.0, (refl, made.1))
