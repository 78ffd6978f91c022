pub mod Blend
pub mod Bit15
