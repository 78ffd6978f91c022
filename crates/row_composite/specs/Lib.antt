pub mod Composite
pub mod steps
