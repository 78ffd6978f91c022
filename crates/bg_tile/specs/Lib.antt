pub mod Tile
pub mod steps
