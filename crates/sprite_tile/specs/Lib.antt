pub mod Tile
pub mod theorems
pub mod steps
