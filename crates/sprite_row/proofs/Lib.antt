pub mod Row
pub mod Tiles
