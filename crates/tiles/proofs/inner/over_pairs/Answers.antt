use Prim.Native.Nat.{ℕ, ◌+◌, ◌-◌, ◌*◌, ◌<◌, ◌≤◌}
use mathlib.Core.List.{List}
use mathlib.Core.Path.{◌≡◌}
use native.Mathlib.Omega.{arith}
use native.Mathlib.Nat.{pow-le-pow_right}
use lib.Dec.{lit<}
use Rattle.tiles.specs.Tiles.{pair_at}
use Rattle.tiles.proofs.Walk.{Left, none_walked, walk_more, all_walked, walked_small}
use Rattle.tiles.proofs.inner.over_pairs.Goals as goal

pub loop-pair-init : goal.loop-pair-init
loop-pair-init c = (omega arith, none_walked _ _ _ _ _)

-- a turn walks the pair below,
turn : (v : List ℕ) (base x y pairs pair index : ℕ) → 0 < pair → Left v base x y pairs pair index →
    Left v base x y pairs (pair - 1) (index * 4 + pair_at v base x y (pair - 1))
turn v base x y pairs pair index more left =
    let k : pair ≡ pair - 1 + 1 = omega arith in
    walk_more _ _ _ _ _ (pair - 1) index (rw k at left)

-- and a byte holds what was walked then
fits : (v : List ℕ) (base x y pairs pair index : ℕ) → pairs ≤ 4 → 0 < pair → Left v base x y pairs pair index →
    index * 4 + pair_at v base x y (pair - 1) < 256
fits v base x y pairs pair index few more left =
    let p = pow-le-pow_right {n = 4} (lit< tt) few in
    omega (arith, p, walked_small _ _ _ _ _ _ _ (turn v base x y pairs pair index more left))

pub loop-pair-preserved : goal.loop-pair-preserved
loop-pair-preserved c = (omega arith, rw c.plane_pair.ensures.0 (turn _ _ _ _ _ _ _ (omega arith) c.loop-pair.invariant.1))

pub returns : goal.returns
returns c =
    let l = c.loop-pair in
    let k : l.pair ≡ 0 = omega arith in
    (all_walked _ _ _ _ _ l.index (rw k at l.invariant.1), walked_small _ _ _ _ _ l.pair l.index l.invariant.1)

pub overflow_mul-index : goal.overflow_mul-index
overflow_mul-index c = omega (arith, fits _ _ _ _ _ _ _ c.requires.1.1 (omega arith) c.loop-pair.invariant.1)

pub overflow_add-index : goal.overflow_add-index
overflow_add-index c = omega (arith, fits _ _ _ _ _ _ _ c.requires.1.1 (omega arith) c.loop-pair.invariant.1)
