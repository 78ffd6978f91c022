use Prim.Native.Nat.{ℕ}
use Rattle.line_laying.specs.theorems.Unlit.{unlit_line}
use Rattle.line_laying.proofs.Screens.{laid_as_shown}
use Rattle.line_laying.specs.Laying.{on_screen, candidate_in}
use Rattle.line_pixels.specs.Pixels.{no_pixel, deposited}
use Rattle.base_lists.specs.steps.Filling.{long_field}
use Rattle.base_lists.specs.theorems.Tab.{tab_ext}
use lib.ListN.{get_or}
use mathlib.Core.Bool.{Bool, false, ◌&&◌, not}
use mathlib.Core.Path.{sym, ap, ◌∙◌}
use borrow.Author.Rules.{rules}
use Rattle.line_laying.proofs.inner.lay_screen.Goals as goal

pub returns-then-lit : goal.returns-then-lit
returns-then-lit c =
    let a = c.args in
    let t : ℕ → Bool = λ x. not (a.win && get_or a.mask.now x false) in
    c.lay_line.ensures
    ∙ tab_ext 256 _ _ (λ x h. laid_as_shown (get_or a.line.now x no_pixel) (t x) (candidate_in a.row.now x)
    ∙ ap (λ (b : Bool). deposited (get_or a.line.now x no_pixel) (on_screen (b && t x) (candidate_in a.row.now x))) (sym c.if-lit.true))

pub returns-else-lit : goal.returns-else-lit
returns-else-lit c =
    let a = c.args in
    unlit_line (λ x. a.win && get_or a.mask.now x false) (candidate_in a.row.now) a.line.now c.if-lit.false (search (rules, long_field))
