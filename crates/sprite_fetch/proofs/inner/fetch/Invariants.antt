use Prim.Native.Nat.{◌+◌, ◌-◌, ◌≤◌}
use mathlib.Core.List.{◌++◌}
use lib.ListN.{drop}
use Rattle.sprite_fetch.specs.Fetch.{fetch_order}
use Rattle.sprite_fetch.specs.steps.Walk.{sprites_of}
use Rattle.sprite_fetch.proofs.Order.{SoFar, tiles_to}
use Rattle.sprite_fetch.proofs.inner.fetch.Given as goal

abbrev pub invariant-loop-t : goal.invariant-loop-t
invariant-loop-t l =
    SoFar l.view (fetch_order l.view.objsel (drop (l.k + 1) (sprites_of l.chosen.count l.chosen.sprites)) ++ tiles_to l.s l.t) l.rows l.count × (l.t ≤ l.tiles_wide)

abbrev pub decreases-loop-t : goal.decreases-loop-t
decreases-loop-t l = l.tiles_wide - l.t

abbrev pub invariant-loop-k : goal.invariant-loop-k
invariant-loop-k l =
    SoFar l.view (fetch_order l.view.objsel (drop l.k (sprites_of l.chosen.count l.chosen.sprites))) l.rows l.count × (l.k ≤ l.chosen.count)

abbrev pub decreases-loop-k : goal.decreases-loop-k
decreases-loop-k l = l.k
