use Rattle.std.proofs.Common.{◌∙◌, sym, ◌+◌, ◌-◌, ◌%◌, get_or, ℕ}
use native.Mathlib.Nat.{add-zero}
use lib.Seq.{get_or-take}
use Rattle.base_lists.specs.theorems.Tab.{tab_ext, get_d_tab}
use Rattle.packed_background.proofs.inner.columns.Goals as goal

pub returns : goal.returns
returns c =
    let a = c.args in
    let line = c.blocks-line.result in
    let rule : ℕ → ℕ = λ x. get_or a.cells.now (x - x % a.block + a.fine) 0 in
    c.from_column-2.ensures
    ∙ tab_ext 256 _ _
    (λ x h. (λ i. get_or line (add-zero x i) 0)
    ∙ (sym (get_or-take 256 line x 0 h) ∙ ((λ i. get_or (c.blocks-line.ensures i) x 0) ∙ get_d_tab rule 256 x 0 h)))
