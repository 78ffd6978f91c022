-- The ranges of a sprite's size.
use Rattle.std.specs.Prelude.{◌%◌, ◌≤◌, ◌≡◌}
use Rattle.oam.specs.declared.SpriteSize.{SpriteSize}

-- the width and the height are 8 to 64, and the width is whole tiles
pub record Sized (s : SpriteSize) : Type 0 where
  pub wide : 8 ≤ s.width
  pub narrow : s.width ≤ 64
  pub high : 8 ≤ s.height
  pub low : s.height ≤ 64
  pub whole : s.width % 8 ≡ 0
