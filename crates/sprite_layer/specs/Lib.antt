pub mod Sprites
pub mod Edges
pub mod theorems
