pub mod Bit15
