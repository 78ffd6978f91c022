pub mod Packed
pub mod theorems
