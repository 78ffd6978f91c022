pub mod Bytes
pub mod theorems
