use Rattle.std.proofs.Common.{rules}
use mathlib.Core.Path.{◌∙◌}
use Rattle.base_lists.specs.theorems.Tab.{tab_ext}
use Rattle.base_lists.specs.steps.Made.{made}
use Rattle.tiles_eight.specs.steps.Shades.{shade}
use Rattle.tiles_eight.proofs.Columns.{index_is}
use Rattle.tiles_eight.proofs.inner.shaded.Goals as goal

pub returns : goal.returns
returns g c =
    let a = c.args in
    let t = a.t in
    made _ c.from_fn.ensures.items (λ i b y q k. search rules)
    ∙ tab_ext 8 _ _ (λ k h i. shade a.colors.now a.head.bits (index_is a.vram.now t.base t.row g.row.N t.flip_x c.words-words.ensures c.turned-cols.ensures.0 k h i))
