use Prim.Native.Nat.{ℕ, ◌+◌, ◌%◌}
use mathlib.Core.Path.{◌≡◌, sym, ◌∙◌}
use native.Mathlib.Omega.{arith}
use borrow.Author.Rules.{rules}
use mathlib.Core.List.{List}
use lib.ListN.{get_or, set, take}
use lib.Seq.{take_all}
use Rattle.base_lists.specs.Tab.{tab}
use Rattle.line_pixels.specs.declared.Candidate.{Candidate}
use Rattle.line_pixels.specs.Pixels.{none}
use Rattle.sprite_tile.specs.Tile.{sprite_pixel_of}
use Rattle.tiles.specs.declared.BitDepth.TheVariants.{Four}
use Rattle.tiles_row.specs.steps.Rows.{row_index}
use Rattle.sprite_tile.proofs.Laws.{colours_length}
use Rattle.sprite_tile.specs.declared.PlacedRow.{PlacedRow}
use Rattle.sprite_fetch.specs.steps.Walk.{blank_row, drawn_all, drawn_line}
use Rattle.sprite_fetch.proofs.Draws.{sound_at, after, after_none, beyond, clear, drawn, drawn_none, drawn_more}
use Rattle.sprite_fetch.proofs.inner.draw.Goals as goal

-- the tile of a turn, and what the columns held before it
abbrev row_of : List PlacedRow → ℕ → PlacedRow
row_of l i = get_or l i blank_row

abbrev held : List ℕ → List ℕ → List PlacedRow → ℕ → ℕ → Candidate
held v g l i x = drawn_all v g (take i l) x none

pub loop-s-init : goal.loop-s-init
loop-s-init c = let a = c.args in drawn_none a.vram.now a.cgram.now c.none-line.ensures

pub loop-k-init : goal.loop-k-init
loop-k-init c =
    let a = c.args in
    let l = c.as_slice-s-items.result.now in
    let i = c.loop-s.s-index in
    (c.loop-s.invariant ∙ after_none a.vram.now a.cgram.now (row_of l i) (held a.vram.now a.cgram.now l i), omega arith)

pub loop-k-preserved-then-x-ge256 : goal.loop-k-preserved-then-x-ge256
loop-k-preserved-then-x-ge256 c =
    let a = c.args in
    let l = c.as_slice-s-items.result.now in
    let i = c.loop-s.s-index in
    let sound = sound_at a.f.count a.f.rows c.requires.1 c.as_slice-s-items.ensures i c.loop-s-test.true in
    (c.loop-k.invariant.0 ∙ beyond a.vram.now a.cgram.now (row_of l i) (held a.vram.now a.cgram.now l i) c.loop-k.k sound.nine c.loop-k-test.true c.if-x-ge256.true, omega arith)

pub loop-k-preserved-then-n-eq0 : goal.loop-k-preserved-then-n-eq0
loop-k-preserved-then-n-eq0 c =
    let a = c.args in
    let l = c.as_slice-s-items.result.now in
    let i = c.loop-s.s-index in
    (c.loop-k.invariant.0 ∙ clear a.vram.now a.cgram.now (row_of l i) (held a.vram.now a.cgram.now l i) c.loop-k.k (sym c.index-n.ensures.0 ∙ c.if-n-eq0.true), omega (arith, c.loop-k-test.true))

pub pixel-requires : goal.pixel-requires
pixel-requires c =
    let a = c.args in
    let l = c.as_slice-s-items.result.now in
    let i = c.loop-s.s-index in
    let sound = sound_at a.f.count a.f.rows c.requires.1 c.as_slice-s-items.ensures i c.loop-s-test.true in
    (rw c.palette-colors.ensures (colours_length a.cgram.now (row_of l i).tile.palette (search rules) sound.sound.palette_in), c.index-n.ensures.1)

pub loop-k-preserved : goal.loop-k-preserved
loop-k-preserved c =
    let a = c.args in
    let v = a.vram.now in
    let g = a.cgram.now in
    let l = c.as_slice-s-items.result.now in
    let i = c.loop-s.s-index in
    let k = c.loop-k.k in
    let s = row_of l i in
    let j = (s.tile_x + k) % 512 in
    let sound = sound_at a.f.count a.f.rows c.requires.1 c.as_slice-s-items.ensures i c.loop-s-test.true in
    let is = c.pixel.ensures ∙ (λ i. sprite_pixel_of (c.palette-colors.ensures i) s.tile.palette s.tile.z (c.index-n.ensures.0 i)) in
    let opaque : row_index v Four s.tile k ≡ 0 → ⊥ = λ z. c.if-n-eq0.false (c.index-n.ensures.0 ∙ z) in
    let h = c.loop-k-test.true in
    ((λ i. set (c.loop-k.invariant.0 i) j (is i)) ∙ drawn v g s (held v g l i) k sound.nine h c.if-x-ge256.false opaque, omega (arith, h))

pub loop-s-preserved : goal.loop-s-preserved
loop-s-preserved c =
    let a = c.args in
    let v = a.vram.now in
    let g = a.cgram.now in
    let l = c.as_slice-s-items.result.now in
    let i = c.loop-s.s-index in
    let n : c.loop-k.k ≡ 8 = omega (arith, c.loop-k.invariant.1, c.loop-k-test.false) in
    c.loop-k.invariant.0 ∙ ((λ j. tab 256 (after v g (row_of l i) (held v g l i) (n j))) ∙ drawn_more v g l i c.loop-s-test.true)

pub returns : goal.returns
returns c =
    let a = c.args in
    let l = c.as_slice-s-items.result.now in
    c.loop-s.invariant ∙ (λ i. drawn_line a.vram.now a.cgram.now ((take_all c.loop-s.s-index l c.loop-s-test.false ∙ c.as_slice-s-items.ensures) i))
