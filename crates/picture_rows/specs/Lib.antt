pub mod Pictures
pub mod Parts
pub mod Drawings
pub mod theorems
pub mod steps
