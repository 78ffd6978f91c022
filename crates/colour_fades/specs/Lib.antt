pub mod Fades
pub mod theorems
pub mod steps
