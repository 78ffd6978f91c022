pub mod Barred
pub mod Part
