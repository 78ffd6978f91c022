use borrow.Author.Rules.{rules}
use Prim.Native.Nat.{ℕ, ◌+◌, ◌*◌, ◌/◌, ◌%◌, ◌<◌}
use mathlib.Core.Path.{◌≡◌, subst, ap, ◌∙◌}
use mathlib.Core.Bool.{◌&&◌}
use native.Mathlib.Omega.{arith}
use native.Mathlib.Nat.{mod-lt}
use Rattle.base_lists.specs.Tab.{tab}
use Rattle.base_lists.specs.theorems.Tab.{tab_ext}
use Rattle.base_lists.specs.steps.Filling.{front_none, front_at, front_all}
use Rattle.tiles_row.specs.declared.TileRow.{TileRow}
use Rattle.bg_tile.specs.Tile.{bg_colours, is_eight}
use Rattle.bg_tile.specs.steps.Characters.{character_row_at, cell_in}
use Rattle.bg_row.specs.steps.Cells.{cell_at}
use Rattle.bg_row.proofs.Decode.{cell_of}
use Rattle.packed_pixels.specs.steps.Packed.{packed_if}
use Rattle.packed_background.proofs.Laid.{front_laid}
use Rattle.packed_background.proofs.inner.cells.Goals as goal

pub loop-j-init : goal.loop-j-init
loop-j-init c = (front_none (search rules), omega arith)

pub character_row-t-requires : goal.character_row-t-requires
character_row-t-requires c =
    let a = c.args in
    (c.map_row-map_row.ensures, subst (λ (n : ℕ). (a.p.params.scroll_x / 8 * 8 + c.loop-j.j * 8) % c.extent-width.result < n) c.extent-width.ensures.0 (mod-lt _ c.extent-width.ensures.1.0))

pub loop-j-preserved : goal.loop-j-preserved
loop-j-preserved c =
    let a = c.args in
    let v = a.vram.now in
    let g = a.g.now in
    let p = a.p.params in
    let j = c.loop-j.j in
    let direct = is_eight p.bpp && a.direct in
    let shown : TileRow → ℕ → ℕ = λ s n. packed_if (cell_in v (bg_colours g p s.palette) p direct s n) in
    let cell : ℕ → ℕ = λ i. packed_if (cell_at v g p a.direct a.py i) in
    let ch = c.character_row-t.ensures.0 ∙ (λ n. character_row_at v p ((p.scroll_x / 8 * 8 + j * 8) % c.extent-width.ensures.0 n) a.py) in
    let eight : c.eight-pixels.result ≡ tab 8 (λ k. cell (j * 8 + k)) =
    c.eight-pixels.ensures
    ∙ tab_ext 8 _ _ (λ k h. (λ n. shown (ch n) k) ∙ (λ n. packed_if (cell_of v g p a.direct a.py j k h n))) in
    let laid =
    front_laid (j * 8) (j * 8 + 8) c.loop-j.invariant.0 (omega arith) (omega (arith, c.loop-j-test.true))
    (c.copy_from_slice.ensures.after ∙ (eight ∙ ap (λ (k : ℕ). tab k (λ k. cell (j * 8 + k))) (omega arith))) in
    (front_at (omega arith) laid, omega (arith, c.loop-j-test.true))

pub returns : goal.returns
returns c = front_all c.loop-j.invariant.0 (omega (arith, c.loop-j-test.false))
