use mathlib.Core.Path.{◌≡◌, ◌∙◌}
use mathlib.Core.Bool.{Bool, false}
use lib.ListN.{get_or}
use Rattle.base_lists.specs.theorems.Tab.{tab_ext}
use Rattle.line_pixels.specs.Pixels.{no_pixel}
use Rattle.line_pixels.specs.declared.LinePixel.{LinePixel}
use Rattle.row_blend.specs.Blend.{kept_colour, colour_of}
use Rattle.row_composite.proofs.Idle.{no_layer, nowhere}
use Rattle.row_composite.proofs.inner.colors.Goals.{then-s-eq0-via-then-s-eq0, then-s-eq0-via-else-s-eq0+then-s-eq3}
use Rattle.row_composite.proofs.inner.colors.Goals as goal

pub returns-then-s-eq0 : goal.returns-then-s-eq0
returns-then-s-eq0 c =
    let a = c.args in
    let idle : (main sub : LinePixel) (inside : Bool) → kept_colour a.s main inside ≡ colour_of a.s main sub inside =
    λ main sub inside.
    elim c.then-s-eq0.branch [
      | then-s-eq0-via-then-s-eq0 w ↦ no_layer a.s main sub inside w.if-s-eq0.true
      | then-s-eq0-via-else-s-eq0+then-s-eq3 w ↦ nowhere a.s main sub inside w.if-s-eq3.true
    ] in
    c.keep.ensures
    ∙ tab_ext 256 _ _ (λ x h. idle (get_or a.lines.now.main x no_pixel) (get_or a.lines.now.sub x no_pixel) (get_or a.inside.now x false))
