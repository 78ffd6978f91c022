pub mod SpriteRow
