pub mod Modes
pub mod Ties
pub mod theorems
pub mod steps
