pub mod Drawing
pub mod SpriteMemory
pub mod Sprites
