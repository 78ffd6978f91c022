pub mod Remainder
pub mod theorems
