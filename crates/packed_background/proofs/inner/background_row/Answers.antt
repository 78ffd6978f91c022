use mathlib.Core.Path.{sym, ◌∙◌}
use mathlib.Core.Bool.{cond, ◌||◌}
use Rattle.base_lists.specs.Tab.{tab}
use Rattle.packed_pixels.specs.steps.Packed.{packed_if}
use Rattle.bg_row.specs.Row.{bg_pixel}
use Rattle.packed_background.proofs.inner.background_row.Goals as goal

pub returns-then-p : goal.returns-then-p
returns-then-p c =
    let a = c.args in
    let p = c.bg_params-p in
    c.drawn.ensures
    ∙ ((λ i. tab 256 (λ x. cond (sym c.if-p.true i) (packed_if (bg_pixel a.vram.now a.g.now a.r p.result.params a.y.number x)) 0))
    ∙ (λ i. tab 256 (λ x. cond ((p.ensures i).to_main || (p.ensures i).to_sub) (packed_if (bg_pixel a.vram.now a.g.now a.r (p.ensures i) a.y.number x)) 0)))

pub returns-else-p : goal.returns-else-p
returns-else-p c =
    let a = c.args in
    let p = c.bg_params-p in
    c.requires
    ∙ ((λ i. tab 256 (λ x. cond (sym c.if-p.false i) (packed_if (bg_pixel a.vram.now a.g.now a.r p.result.params a.y.number x)) 0))
    ∙ (λ i. tab 256 (λ x. cond ((p.ensures i).to_main || (p.ensures i).to_sub) (packed_if (bg_pixel a.vram.now a.g.now a.r (p.ensures i) a.y.number x)) 0)))
