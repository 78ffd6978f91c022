use Rattle.bg_map.specs.Source.{source_column}
use native.Mathlib.Nat.{mod-le, mod-lt}
use mathlib.Core.Path.{subst}
use Prim.Native.Nat.{ℕ, ◌+◌, ◌-◌, ◌%◌, ◌<◌}
use Rattle.bg_map.proofs.inner.source_column.Goals as goal

pub overflow_sub-result : goal.overflow_sub-result
overflow_sub-result c = mod-le _ _

pub returns : goal.returns
unfolding source_column
returns c =
    let a = c.args in
    let b = c.block-block in
    let w = c.extent-width in (
      λ i. (a.x - a.x % b.ensures.0 i + a.p.scroll_x) % w.ensures.0 i,
      subst (λ (k : ℕ). (a.x - a.x % b.result + a.p.scroll_x) % w.result < k) w.ensures.0 (mod-lt _ w.ensures.1.0),
    )
