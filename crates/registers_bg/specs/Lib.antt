pub mod Backgrounds
pub mod theorems
