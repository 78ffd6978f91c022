pub mod Pixels
pub mod theorems
pub mod steps
