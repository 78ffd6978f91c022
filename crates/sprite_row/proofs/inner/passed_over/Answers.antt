use Rattle.std.proofs.Common.{◌+◌, le-ltb, lt-ltb}
use Rattle.sprite_row.proofs.Row.{ends_by}
use Rattle.sprite_row.specs.SpriteRow.{passes}
use Rattle.sprite_row.proofs.inner.passed_over.Goals as goal

pub returns-then-x9-gt256 : goal.returns-then-x9-gt256
unfolding passes
returns-then-x9-gt256 c = simp (lt-ltb _ _ c.if-x9-gt256.true) (let a = c.args in ends_by (a.x9 + a.width))

pub returns-else-x9-gt256 : goal.returns-else-x9-gt256
unfolding passes
returns-else-x9-gt256 c = simp (le-ltb _ _ c.if-x9-gt256.false)
