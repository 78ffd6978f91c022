pub mod Handed
pub mod theorems
