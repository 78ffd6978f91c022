use borrow.Author.Rules.{rules}
use mathlib.Core.Path.{◌∙◌}
use mathlib.Core.Bool.{true, not, ◌&&◌}
use lib.ListN.{get_or-replicate}
use Rattle.base_lists.specs.theorems.Tab.{tab_ext, by_get_d}
use Rattle.line_window.specs.Window.{masked}
use Rattle.packed_pixels.proofs.Barred.{where_lit, where_unlit}
use Rattle.packed_pixels.proofs.inner.barred.Goals as goal

pub returns-then-lit : goal.returns-then-lit
returns-then-lit c =
    let a = c.args in
    c.mask.ensures ∙ tab_ext 256 _ _ (λ x h. where_lit a.lit (a.win && masked a.w x) c.if-lit.true)

pub returns : goal.returns
returns c =
    let a = c.args in
    by_get_d 256 _ _ true (search rules)
    (λ x h. get_or-replicate 256 x true true h ∙ where_unlit a.lit (not (a.win && masked a.w x)) c.if-lit.false)
