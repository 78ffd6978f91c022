use Rattle.std.proofs.Common.{rules}
use Rattle.bg_tile.proofs.Laws.{palette_length, cell_is_pixel}
use Rattle.bg_tile.specs.steps.Characters.{cell_in}
use Rattle.bg_tile.specs.Tile.{bg_colours, pixel_at}
use mathlib.Core.Path.{◌≡◌, ap, ◌∙◌}
use Prim.Native.Nat.{ℕ, ◌+◌, ◌*◌, ◌/◌, ◌%◌}
use native.Mathlib.Omega.{arith}
use Rattle.bg_tile.proofs.inner.pixel.Goals as goal

pub cell-requires : goal.cell-requires
cell-requires c =
    let long =
    palette_length c.args.cgram.now c.args.p.params c.character_row-t.result.palette (search rules) c.args.p.background
    c.character_row-t.ensures.1.palette_in in
    (rw c.palette-colors.ensures long, (c.character_row-t.ensures.1, omega arith))

pub returns : goal.returns
returns c =
    let a = c.args in
    let v = a.vram.now in
    let g = a.cgram.now in
    let p = a.p.params in
    let n = a.px / 8 * 8 in
    let k = a.px % 8 in
    let ch = c.character_row-t.ensures.0 in
    let colours = c.palette-colors.ensures ∙ (λ j. bg_colours g p (ch j).palette) in
    let whole : n + k ≡ a.px = omega arith in
    c.cell.ensures
    ∙ ((λ i. cell_in v (colours i) p (c.is_direct-direct.ensures i) (ch i) k)
    ∙ (cell_is_pixel n k (omega arith) (omega arith) v p a.py g a.direct
    ∙ ap (λ (x : ℕ). pixel_at v g p a.direct x a.py) whole))
