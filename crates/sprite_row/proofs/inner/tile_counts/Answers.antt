use Rattle.sprite_row.proofs.Tiles.{beyond}
use Rattle.sprite_row.specs.SpriteRow.{counts}
use Rattle.std.proofs.Common.{lt-ltb, eq-eqb, ne_eqb}
use borrow.Author.Tests.{lt-leb}
use Rattle.sprite_row.proofs.inner.tile_counts.Goals as goal

pub returns-then-x9-eq256 : goal.returns-then-x9-eq256
unfolding counts
returns-then-x9-eq256 c = simp (eq-eqb _ _ c.if-x9-eq256.true)

pub returns-then-tile_x-lt256 : goal.returns-then-tile_x-lt256
unfolding counts
returns-then-tile_x-lt256 c = simp (ne_eqb _ _ c.if-x9-eq256.false, lt-ltb _ _ c.if-tile_x-lt256.true, lt-leb 256 _ c.if-tile_x-lt256.true)

pub returns-else-tile_x-lt256 : goal.returns-else-tile_x-lt256
returns-else-tile_x-lt256 c = beyond _ _ c.if-x9-eq256.false c.if-tile_x-lt256.false
