use Rattle.bg_row.proofs.Decode.{cell_shown}
use Rattle.bg_row.proofs.Spread.{within_cells}
use Rattle.bg_row.specs.steps.Cells.{cell_at}
use Rattle.registers_mosaic.specs.Mosaic.{block_if}
use Rattle.line_laying.specs.Laying.{candidate_in}
use Rattle.line_pixels.specs.Pixels.{none}
use Rattle.base_lists.specs.theorems.Tab.{tab_ext, get_d_tab}
use mathlib.Core.Path.{◌∙◌}
use Prim.Native.Nat.{◌+◌, ◌-◌, ◌%◌}
use native.Mathlib.Omega.{arith}
use Rattle.bg_row.proofs.inner.row.Goals as goal

pub returns : goal.returns
returns c =
    let a = c.args in
    let v = a.vram.now in
    let g = a.cgram.now in
    let p = a.p.params in
    let fine = p.scroll_x % 8 in
    let size = block_if p.mosaic a.r in
    c.columns.ensures
    ∙ tab_ext 256 _ _
    (λ x h. (λ i. candidate_in (c.cells-decoded.ensures i) (x - x % c.block-block.ensures.0 i + fine))
    ∙ (get_d_tab (cell_at v g p c.direct_color.result c.source_line-py.result) 264 (x - x % size + fine) none (within_cells size x fine h (omega arith))
    ∙ ((λ i. cell_at v g p (c.direct_color.ensures i) (c.source_line-py.ensures.0 i) (x - x % size + fine))
    ∙ cell_shown v g a.r p a.y.number x)))
