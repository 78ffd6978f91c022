use Rattle.bg_map.proofs.Places.{tile_small}
use Rattle.bg_map.specs.steps.Rows.{entry_in}
use Rattle.bg_map.specs.Map.{entry_of}
use Rattle.bg_map.specs.declared.MapEntry.{MapEntry}
use Rattle.tiles.specs.Tiles.{vram_word}
use mathlib.Core.Path.{sym, subst, ap, ◌∙◌}
use Prim.Native.Nat.{ℕ, ◌+◌, ◌*◌, ◌/◌, ◌%◌, ◌<◌}
use native.Mathlib.Omega.{arith}
use Rattle.bg_map.proofs.inner.entry_in.Goals as goal
use Rattle.bg_map.proofs.inner.entry_in.Goals.{After-tile_of-col}

column-below : (c : After-tile_of-col) → c.tile_of-col.result < 128
column-below c =
    subst (λ (k : ℕ). k < 128) (sym c.tile_of-col.ensures) (tile_small c.args.tile16 c.args.px c.requires.1)

pub overflow_mul-col : goal.overflow_mul-col
overflow_mul-col c = omega (arith, column-below c)

pub overflow_add-map_row : goal.overflow_add-map_row
overflow_add-map_row c = omega (arith, column-below c)

pub overflow_add-map_row-2 : goal.overflow_add-map_row-2
overflow_add-map_row-2 c = omega (arith, column-below c)

pub returns : goal.returns
unfolding entry_in
returns c = let a = c.args in (c.map_entry.ensures ∙ ap entry_of (c.word.ensures ∙ (λ i. vram_word a.vram.now (a.map_row + c.tile_of-col.ensures i / 32 * 1024 + c.tile_of-col.ensures i % 32))), omega (arith, ap (λ (e : MapEntry). e.palette) c.map_entry.ensures))
