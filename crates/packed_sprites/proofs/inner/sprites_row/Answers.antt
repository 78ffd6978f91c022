use Prim.Native.Nat.{◌<◌}
use mathlib.Core.Path.{refl, sym, ap, ◌∙◌}
use mathlib.Core.Bool.{cond, ◌||◌}
use mathlib.Core.List.{map}
use native.Mathlib.Omega.{arith}
use lib.ListN.{take}
use Rattle.base_lists.specs.Tab.{tab}
use Rattle.base_lists.specs.theorems.Tab.{tab_same}
use Rattle.base_lists.specs.theorems.Changed.{map_tab}
use Rattle.line_pixels.specs.Pixels.{none}
use Rattle.packed_pixels.specs.steps.Packed.{packed_if}
use Rattle.sprite_fetch.specs.Fetch.{line_pixel}
use Rattle.sprite_fetch.specs.steps.Walk.{drawn_all}
use Rattle.sprite_fetch.proofs.Shows.{drawn_line_lem}
use Rattle.sprite_layer.specs.Sprites.{view_of, chosen_sprites, sprite_pixel}
use Rattle.packed_sprites.proofs.inner.sprites_row.Goals as goal
use Rattle.packed_sprites.proofs.inner.sprites_row.Goals.{After-draw}

-- objsel is a byte
byte : (c : After-draw) → c.args.r.objsel < 256
byte c = omega arith

pub returns-then-bit : goal.returns-then-bit
unfolding sprite_pixel
returns-then-bit c =
    let a = c.args in
    let v = a.vram.now in
    let g = a.g.now in
    let t = c.fetched_rows.result in
    let chosen = chosen_sprites a.oam.now a.r a.y.number in
    let view = view_of a.r a.y.number in
    let line = ap (map packed_if) (drawn_line_lem v g view (byte c) chosen c.fetched_rows.ensures.0) in
    let lit = sym c.if-bit.true ∙ (λ i. c.bit.ensures i || c.bit-2.ensures i) in
    c.draw.ensures
    ∙ (sym (map_tab packed_if 256 (λ x. drawn_all v g (take t.count t.rows) x none))
    ∙ (line
    ∙ (map_tab packed_if 256 (line_pixel v g view 34 chosen)
    ∙ (λ i. tab 256 (λ x. cond (lit i) (packed_if (sprite_pixel v g a.oam.now a.r a.y.number x)) 0)))))

pub returns-else-bit : goal.returns-else-bit
returns-else-bit c =
    let a = c.args in
    let unlit = sym c.if-bit.false ∙ (λ i. c.bit.ensures i || c.bit-2.ensures i) in
    tab_same 256 {b = 0} refl ∙ (λ i. tab 256 (λ x. cond (unlit i) (packed_if (sprite_pixel a.vram.now a.g.now a.oam.now a.r a.y.number x)) 0))
