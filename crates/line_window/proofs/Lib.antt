pub mod Xor
