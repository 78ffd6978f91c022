pub mod Spread
pub mod Decode
