use Prim.Native.Nat.{ℕ, ◌+◌, ◌-◌, ◌%◌}
use mathlib.Core.Path.{◌∙◌}
use native.Mathlib.Omega.{arith}
use lib.ListN.{get_or}
use Rattle.base_lists.specs.theorems.Tab.{tab_ext, get_d_tab}
use Rattle.registers_mosaic.specs.Mosaic.{block_if}
use Rattle.packed_pixels.specs.steps.Packed.{packed_if}
use Rattle.bg_row.specs.steps.Cells.{cell_at}
use Rattle.bg_row.proofs.Decode.{cell_shown}
use Rattle.bg_row.proofs.Spread.{within_cells}
use Rattle.packed_background.proofs.inner.drawn.Goals as goal

pub returns : goal.returns
returns c =
    let a = c.args in
    let v = a.vram.now in
    let g = a.g.now in
    let p = a.p.params in
    let fine = p.scroll_x % 8 in
    let size = block_if p.mosaic a.r in
    c.columns.ensures
    ∙ tab_ext 256 _ _
    (λ x h. (λ i. get_or (c.cells.ensures i) (x - x % c.block-block.ensures.0 i + fine) 0)
    ∙ (get_d_tab (λ (n : ℕ). packed_if (cell_at v g p c.direct_color.result c.source_line-py.result n)) 264 (x - x % size + fine) 0 (within_cells size x fine h (omega arith))
    ∙ ((λ i. packed_if (cell_at v g p (c.direct_color.ensures i) (c.source_line-py.ensures.0 i) (x - x % size + fine)))
    ∙ (λ i. packed_if (cell_shown v g a.r p a.y.number x i)))))
