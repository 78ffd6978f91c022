use Rattle.std.proofs.Common.{rules, refl, replicate, ◌∙◌}
use Rattle.base_lists.specs.theorems.Tab.{tab_same}
use Rattle.row_composite.specs.Composite.{black_row}
use Rattle.row_composite.proofs.inner.black.Goals as goal

pub returns : goal.returns
unfolding black_row
returns c = c.fill.ensures.after (λ y e. search rules) ∙ ((λ i. replicate (c.told-row i) 0) ∙ tab_same 768 refl)
