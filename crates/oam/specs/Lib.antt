pub mod Sprites
pub mod theorems
pub mod steps
