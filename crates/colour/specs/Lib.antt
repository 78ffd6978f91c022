pub mod Colour
pub mod Bit15
pub mod theorems
