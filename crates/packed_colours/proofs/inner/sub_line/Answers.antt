use Prim.Native.Nat.{ℕ}
use mathlib.Core.Path.{refl, sym, ◌∙◌}
use mathlib.Core.Bool.{cond}
use Rattle.base_lists.specs.Tab.{tab}
use Rattle.base_lists.specs.theorems.Tab.{tab_same}
use Rattle.line_pixels.specs.Pixels.{backdrop_of}
use Rattle.packed_pixels.specs.steps.Packed.{packed}
use Rattle.packed_colours.specs.steps.Screens.{screen_at}
use Rattle.packed_colours.proofs.inner.sub_line.Goals as goal

pub returns-then-bit : goal.returns-then-bit
returns-then-bit c =
    let p = c.args in
    let line : ℕ → ℕ → ℕ = λ back. screen_at p.rows.now back p.r p.r.ts p.r.tsw in
    let on = sym c.if-bit.true ∙ c.bit.ensures in
    c.screen.ensures
    ∙ ((λ i. tab 256 (line (c.backdrop.ensures i))) ∙ (λ i. tab 256 (λ x. cond (on i) (line (packed (backdrop_of p.r.coldata)) x) 0)))

pub returns : goal.returns
returns c =
    let p = c.args in
    let line = screen_at p.rows.now (packed (backdrop_of p.r.coldata)) p.r p.r.ts p.r.tsw in
    let off = sym c.if-bit.false ∙ c.bit.ensures in
    tab_same 256 {b = 0} refl ∙ (λ i. tab 256 (λ x. cond (off i) (line x) 0))
