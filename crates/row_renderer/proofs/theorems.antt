pub mod Bit15
pub mod Unlit
