use Prim.Native.Nat.{ℕ}
use mathlib.Core.Path.{◌≡◌, refl, sym, ◌∙◌}
use native.Mathlib.Omega.{arith}
use lib.ListN.{get_or}
use Rattle.base_lists.specs.theorems.Tab.{get_d_tab}
use Rattle.registers.specs.Replaced.{with_coldata}
use Rattle.colour.specs.Bit15.{SameColour}
use Rattle.line_pixels.specs.steps.Recoloured.{recoloured_lines}
use Rattle.row_composite.specs.Composite.{colour_at, row_bytes}
use Rattle.row_composite.specs.steps.Bit15.{row_blind}
use Rattle.row_composite.proofs.Rows.{blank_row_lem, lit_row}
use Rattle.packed_blend.specs.steps.Laws.{low16}
use Rattle.row_tests.specs.Memory.{lent_scene}
use Rattle.row_renderer.specs.Renderer.{scene_lines, scene_row}
use Rattle.row_renderer.proofs.inner.render.Goals as goal
use Rattle.row_renderer.proofs.inner.render.Goals.{After-brighten}

-- coldata is a word
word : (c : After-brighten) → c.args.r.coldata ≡ low16 c.args.r.coldata
word c = omega arith

-- the low 16 bits of a colour are the colour, but for bit 15
same : (c : ℕ) → SameColour (low16 c) c
same c = omega arith

pub returns-then-force_blank : goal.returns-then-force_blank
unfolding scene_row
returns-then-force_blank c =
    let a = c.args in
    c.black.ensures ∙ blank_row_lem a.r _ (sym c.force_blank.ensures ∙ c.if-force_blank.true)

pub returns : goal.returns
unfolding scene_row
returns c =
    let a = c.args in
    let r = a.r in
    let lines = scene_lines (lent_scene r a.memory) a.y.number in
    let low = recoloured_lines low16 lines in
    let lit = sym c.force_blank.ensures ∙ c.if-force_blank.false in
    c.brighten.ensures
    ∙ (lit_row r low _ _ lit c.brightness.ensures
    (λ x h. (λ i. get_or (c.mixed-colors.ensures i) x 0) ∙ get_d_tab (colour_at r low) 256 x 0 h)
    ∙ ((λ i. row_bytes (with_coldata (word c i) r) low) ∙ row_blind low16 refl same r lines))
