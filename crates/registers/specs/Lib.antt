pub mod Bits
pub mod Screen
pub mod Replaced
pub mod Scene
pub mod Background
pub mod ScreenRow
pub mod theorems
