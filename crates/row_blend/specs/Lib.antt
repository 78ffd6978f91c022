pub mod Blend
pub mod steps
