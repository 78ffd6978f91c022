use Rattle.bg_map.proofs.Places.{tile_below, screens_below}
use Rattle.bg_map.specs.steps.Rows.{map_row_of}
use mathlib.Core.Path.{sym, subst}
use Prim.Native.Nat.{ℕ, ◌+◌, ◌*◌, ◌/◌, ◌%◌, ◌<◌, ◌≤◌}
use native.Mathlib.Omega.{arith}
use Rattle.bg_map.proofs.inner.map_row.Goals as goal
use Rattle.bg_map.proofs.inner.map_row.Goals.{After-struct_known-1}

-- the row of tiles, and the map's screens above it
row_below : (c : After-struct_known-1) → c.tile_of-row.result < 64
row_below c =
    subst (λ (k : ℕ). k < 64) (sym c.tile_of-row.ensures) (tile_below c.args.p.h64 c.args.p.tile16 c.args.py c.requires)

few : (c : After-struct_known-1) → c.tile_of-row.result / 32 * c.screens_wide-across.result ≤ 2
few c = screens_below c.tile_of-row.result c.screens_wide-across.result (row_below c) c.screens_wide-across.ensures.1

pub overflow_mul-result : goal.overflow_mul-result
overflow_mul-result c = omega (arith, few c)

pub overflow_mul-result-2 : goal.overflow_mul-result-2
overflow_mul-result-2 c = omega (arith, few c)

pub overflow_add-result : goal.overflow_add-result
overflow_add-result c = omega (arith, few c)

pub overflow_add-result-2 : goal.overflow_add-result-2
overflow_add-result-2 c = omega (arith, few c, row_below c)

pub returns : goal.returns
unfolding map_row_of
returns c = let a = c.args in ((λ i. a.p.tilemap_base + c.tile_of-row.ensures i / 32 * c.screens_wide-across.ensures.0 i * 1024 + c.tile_of-row.ensures i % 32 * 32), omega (arith, few c, row_below c))
