use Prim.Native.Nat.{ℕ}
use mathlib.Core.Path.{refl, sym, ◌∙◌}
use mathlib.Core.List.{List, [], ◌∷◌}
use Rattle.base_lists.specs.Tab.{tab}
use Rattle.base_lists.specs.theorems.Tab.{tab_ext, tab_same}
use Rattle.packed_colours.specs.steps.Screens.{colour_of_row}
use Rattle.registers.specs.Scene.{scene}
use Rattle.row_renderer.specs.steps.Rows.{layer_row}
use Rattle.row_renderer.proofs.Packed.{colour_is, five}
use Rattle.row_renderer.proofs.inner.mixed.Goals as goal

pub returns : goal.returns
returns c =
    let a = c.args in
    let v = a.memory.vram.now in
    let o = a.memory.oam.now in
    let row : List ℕ → ℕ → List ℕ = λ g k. tab 256 (layer_row (scene a.r v g o) a.y.number k) in
    let g = c.wide-g.ensures in
    let first = c.background_row.ensures ∙ (λ i. row (g i) 0) in
    let second = c.background_row-2.ensures ∙ (λ i. row (g i) 1) in
    let third = c.background_row-3.ensures ∙ (λ i. row (g i) 2) in
    let fourth = c.background_row-4.ensures ∙ (λ i. row (g i) 3) in
    let fifth = c.sprites_row.ensures ∙ (λ i. row (g i) 4) in
    let rows = (λ i. first i ∷ second i ∷ third i ∷ fourth i ∷ fifth i ∷ []) ∙ sym (five (row a.memory.cgram.now)) in
    c.colors.ensures
    ∙ ((λ i. tab 256 (colour_of_row (rows i) (c.backdrop-back.ensures i) a.r))
    ∙ tab_ext 256 _ _ (λ x h. colour_is (scene a.r v a.memory.cgram.now o) a.y.number x h))

pub background_row-requires : goal.background_row-requires
background_row-requires c = tab_same 256 refl

pub background_row-requires-2 : goal.background_row-requires-2
background_row-requires-2 c = tab_same 256 refl

pub background_row-requires-3 : goal.background_row-requires-3
background_row-requires-3 c = tab_same 256 refl

pub background_row-requires-4 : goal.background_row-requires-4
background_row-requires-4 c = tab_same 256 refl
