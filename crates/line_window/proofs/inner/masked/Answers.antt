use mathlib.Core.Path.{◌∙◌}
use mathlib.Core.Bool.{xor}
use Rattle.line_window.specs.Window.{combined, masked}
use Rattle.line_window.proofs.Xor.{exclusive}
use Rattle.line_window.proofs.inner.masked.Goals as goal

pub returns : goal.returns
unfolding masked
returns c =
    let w = c.args.w in
    let one = exclusive _ _ ∙ (λ i. xor (c.inside.ensures i) w.invert1) in
    let two = exclusive _ _ ∙ (λ i. xor (c.inside-2.ensures i) w.invert2) in
    c.combine.ensures ∙ (λ i. combined w.enable1 w.enable2 w.logic (one i) (two i))
