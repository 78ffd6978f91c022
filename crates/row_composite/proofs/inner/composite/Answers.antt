use mathlib.Core.Path.{sym, ◌∙◌}
use mathlib.Core.Bool.{◌||◌}
use Rattle.row_composite.proofs.Rows.{blank_row_lem, lit_row, colour_is}
use Rattle.row_composite.proofs.inner.composite.Goals as goal

pub returns-then-force_blank : goal.returns-then-force_blank
returns-then-force_blank c =
    let a = c.args in
    c.black.ensures ∙ blank_row_lem a.r a.lines.now (sym c.force_blank.ensures ∙ c.if-force_blank.true)

pub returns : goal.returns
returns c =
    let a = c.args in
    c.brighten.ensures
    ∙ lit_row a.r a.lines.now _ _ (sym c.force_blank.ensures ∙ c.if-force_blank.false) c.brightness.ensures
    (colour_is a.r a.lines.now c.of-s.ensures c.color_window-w.ensures
    (λ i. c.by_window.ensures i || c.by_window-2.ensures i)
    c.mask-inside.ensures c.colors-colors.ensures)
