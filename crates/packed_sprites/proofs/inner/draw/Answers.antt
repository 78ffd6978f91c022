use Prim.Native.Nat.{ℕ, ◌+◌, ◌%◌}
use mathlib.Core.Path.{◌≡◌, sym, subst, ◌∙◌}
use native.Mathlib.Omega.{arith}
use mathlib.Core.List.{List}
use lib.ListN.{get_or, set, take}
use lib.Seq.{take_all}
use Rattle.base_lists.specs.theorems.Tab.{tab_ext, get_d_tab}
use Rattle.line_pixels.specs.declared.Candidate.{Candidate}
use Rattle.line_pixels.specs.Pixels.{none}
use Rattle.packed_pixels.specs.steps.Packed.{packed_if}
use Rattle.sprite_tile.specs.declared.PlacedRow.{PlacedRow}
use Rattle.sprite_tile.specs.Tile.{sprite_colours, sprite_pixel_of}
use Rattle.tiles.specs.declared.BitDepth.TheVariants.{Four}
use Rattle.tiles_row.specs.steps.Rows.{row_index}
use Rattle.sprite_fetch.specs.steps.Walk.{blank_row, drawn_all}
use Rattle.sprite_fetch.proofs.Draws.{sound_at, after}
use Rattle.packed_sprites.proofs.Room.{Shows, shows_none, shows_ext, after_first, after_outside, shows_more, none_drawn, tile_more}
use Rattle.packed_sprites.proofs.inner.draw.Goals as goal

-- the tile of a turn, and what the columns held before it
abbrev row_of : List PlacedRow → ℕ → PlacedRow
row_of l i = get_or l i blank_row

abbrev held : List ℕ → List ℕ → List PlacedRow → ℕ → ℕ → Candidate
held v g l i x = drawn_all v g (take i l) x none

pub loop-s-init : goal.loop-s-init
loop-s-init c = let a = c.args in shows_none _ (none_drawn a.vram.now a.g.now)

pub loop-s-preserved-then-at-ge264 : goal.loop-s-preserved-then-at-ge264
loop-s-preserved-then-at-ge264 c =
    let a = c.args in
    let v = a.vram.now in
    let g = a.g.now in
    let l = c.as_slice-s-items.result.now in
    let i = c.loop-s.s-index in
    let sound = sound_at a.f.count a.f.rows c.requires.1 c.as_slice-s-items.ensures i c.loop-s-test.true in
    shows_ext c.loop-s.invariant
    (λ x h. after_outside v g (row_of l i) (held v g l i) sound.nine c.if-at-ge264.true x h ∙ tile_more v g l i c.loop-s-test.true x)

pub loop-k-init : goal.loop-k-init
loop-k-init c =
    let a = c.args in
    let l = c.as_slice-s-items.result.now in
    let i = c.loop-s.s-index in
    let sound = sound_at a.f.count a.f.rows c.requires.1 c.as_slice-s-items.ensures i c.loop-s-test.true in
    (shows_ext c.loop-s.invariant (λ x h. after_first a.vram.now a.g.now (row_of l i) (held a.vram.now a.g.now l i) sound.nine x), omega arith)

pub loop-k-preserved : goal.loop-k-preserved
loop-k-preserved c =
    let a = c.args in
    let v = a.vram.now in
    let g = a.g.now in
    let l = c.as_slice-s-items.result.now in
    let i = c.loop-s.s-index in
    let s = row_of l i in
    let k = c.loop-k.k in
    let h = c.loop-k-test.true in
    let sound = sound_at a.f.count a.f.rows c.requires.1 c.as_slice-s-items.ensures i c.loop-s-test.true in
    let pixel : ℕ → ℕ = λ n. packed_if (sprite_pixel_of (sprite_colours g s.tile.palette) s.tile.palette s.tile.z (row_index v Four s.tile n)) in
    let is = (λ j. get_or (c.pixels-eight.ensures j) k 0) ∙ get_d_tab pixel 8 k 0 h in
    let more = shows_more v g s (held v g l i) sound.nine k h c.if-at-ge264.false c.loop-k.invariant.0 is in
    (subst (λ (n : ℕ). Shows (after v g s (held v g l i) (k + 1)) (set c.loop-k.line ((s.tile_x + 8) % 512 + k) n)) (sym c.over.ensures) more, omega (arith, h))

pub loop-s-preserved : goal.loop-s-preserved
loop-s-preserved c =
    let a = c.args in
    let v = a.vram.now in
    let g = a.g.now in
    let l = c.as_slice-s-items.result.now in
    let i = c.loop-s.s-index in
    let n : c.loop-k.k ≡ 8 = omega (arith, c.loop-k.invariant.1, c.loop-k-test.false) in
    shows_ext c.loop-k.invariant.0
    (λ x h. (λ j. after v g (row_of l i) (held v g l i) (n j) x) ∙ tile_more v g l i c.loop-s-test.true x)

pub returns : goal.returns
returns c =
    let a = c.args in
    let l = c.as_slice-s-items.result.now in
    let all = take_all c.loop-s.s-index l c.loop-s-test.false ∙ c.as_slice-s-items.ensures in
    c.from_column.ensures
    ∙ tab_ext 256 _ _ (λ x h. c.loop-s.invariant.at x h ∙ (λ i. packed_if (drawn_all a.vram.now a.g.now (all i) x none)))
